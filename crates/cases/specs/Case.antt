-- A case as words of four bytes, a day of its words, and a day's shares as the line of an answer has them.
use Rattle.std.specs.Prelude.{ℕ, List, [], ◌∷◌, ◌*◌, ◌/◌, cond, ltb, length, take, drop}
use Rattle.bigendian.specs.Number.{value}
use Rattle.dayformat.specs.declared.day.Day.{Day}
use Rattle.dayshares.specs.declared.Shares.{Shares}

-- what follows so many words, nothing where no whole word does
abbrev pub past_words : List ℕ → ℕ → List ℕ
past_words case count = cond (ltb count (length case / 4)) (drop (4 * count) case) []

-- the word at a place, 0 past the last whole one
abbrev pub word_at : List ℕ → ℕ → ℕ
word_at case place = value (take 4 (past_words case place))

-- the day's head and counts, a word each
abbrev pub day_at : List ℕ → Day
day_at case =
    record {
      head = record {
        day = word_at case 0;
        free_flow = record { 0 = word_at case 1 };
        compressor = record { 0 = word_at case 2 };
      };
      counts = record {
        shippers = word_at case 3;
        points = word_at case 4;
        entries = word_at case 5;
        meters = word_at case 6;
        excused = word_at case 7;
      };
    }

-- the five levels, what each class is given together, and LEFT
abbrev pub share_figures : Shares → List ℕ
share_figures shares =
    shares.levels.one
    ∷ shares.levels.two
    ∷ shares.levels.three
    ∷ shares.levels.auction
    ∷ shares.levels.lower_tier
    ∷ shares.firm.0
    ∷ shares.auction.0
    ∷ shares.lower_tier.0
    ∷ shares.left.0
    ∷ []
