-- Schedule 2, Table 1, as at January 2019: hundred-thousandths of a dollar.
use Rattle.units.specs.declared.Rate.{Rate}
use Rattle.tariff.specs.declared.rates.Rates.{Rates}

-- for a GJ of overrun
abbrev pub overrun_rate : Rate
overrun_rate = record { 0 = 359_000 }

-- for a GJ varied up
abbrev pub variation_rate : Rate
variation_rate = record { 0 = 4_075 }

-- for a request
abbrev pub request_rate : Rate
request_rate = record { 0 = 36_271_000 }

abbrev pub january_2019 : Rates
january_2019 = record { overrun = overrun_rate; variation = variation_rate; request = request_rate }
