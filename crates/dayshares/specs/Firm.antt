-- 01, "A day's shares" (cl. 3.2): the three firm rounds. The rounds take any Free Flow MDQ of at most the firm MDQ; a table has 75/25.
use Rattle.std.specs.Prelude.{List, ℕ, ◌+◌, ◌*◌, ◌-◌, ◌/◌, length}
use Rattle.columns.specs.Column.{col}
use Rattle.columns.specs.Sum.{sum}
use Rattle.sharing.specs.Round.{level, shares}
use Rattle.sharing.specs.Chain.{unmet, after}
use Rattle.units.specs.declared.Gigajoules.{Gigajoules}
use Rattle.daytable.specs.Table.{Table}

-- a row's Free Flow MDQ is three quarters of its firm MDQ rounded down (75/25 in cl. 15.3)
abbrev pub three_quarters : ℕ → ℕ
three_quarters mdq = 3 * mdq / 4

abbrev pub free_flow_mdq : Gigajoules → Gigajoules
free_flow_mdq mdq = record { 0 = three_quarters mdq.0 }

-- what the firm rounds are held with
pub record Firm : Type 0 where
  pub rows : ℕ
  pub free_flow : ℕ
  pub compressor : ℕ
  pub free_flow_mdq : ℕ → ℕ
  pub firm_mdq : ℕ → ℕ
  pub schedule : ℕ → ℕ

-- of lists, with a Free Flow MDQ for each row
abbrev pub firm_of : ℕ → ℕ → (ℕ → ℕ) → List ℕ → List ℕ → Firm
firm_of free_flow compressor free_flow_mdq mdqs schedules =
    record {
      rows = length mdqs;
      free_flow = free_flow;
      compressor = compressor;
      free_flow_mdq = free_flow_mdq;
      firm_mdq = col mdqs;
      schedule = col schedules;
    }

-- those of a table: 75/25 for every row
abbrev pub firm : Table → Firm
firm T =
    firm_of T.free_flow T.compressor (λ i. three_quarters (col T.firm_mdq i)) T.firm_mdq T.firm_schedule

-- the rest of the firm MDQ is Compressor MDQ
abbrev pub compressor_mdq : Firm → ℕ → ℕ
compressor_mdq F i = F.firm_mdq i - F.free_flow_mdq i

-- round one: free flow capacity, weights Free Flow MDQ, needs firm schedule
abbrev pub level_one : Firm → ℕ
level_one F = level F.rows F.free_flow_mdq F.schedule F.free_flow

unfoldable pub given_one : Firm → ℕ → ℕ
given_one F = shares F.rows F.free_flow_mdq F.schedule F.free_flow

-- round two: compressor capacity, weights Compressor MDQ, needs what is unmet
abbrev pub level_two : Firm → ℕ
level_two F = level F.rows (compressor_mdq F) (unmet F.schedule (given_one F)) F.compressor

unfoldable pub given_two : Firm → ℕ → ℕ
given_two F = after F.rows (compressor_mdq F) F.schedule F.compressor (given_one F)

-- round three: what both rounds left, weights firm MDQ, needs what is unmet
abbrev pub left_two : Firm → ℕ
left_two F = F.free_flow + F.compressor - sum F.rows (given_two F)

abbrev pub level_three : Firm → ℕ
level_three F = level F.rows F.firm_mdq (unmet F.schedule (given_two F)) (left_two F)

-- what each firm row is given
unfoldable pub given_firm : Firm → ℕ → ℕ
given_firm F = after F.rows F.firm_mdq F.schedule (left_two F) (given_two F)
