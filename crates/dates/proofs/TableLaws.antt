-- By the century's own table the conversions are those of the rules. Assumes nothing.
use mathlib.Core.Path.{◌≡◌, refl, ◌∙◌, ap}
use Prim.Native.Nat.{ℕ}
use Rattle.dates.specs.Months.{leap_of, last_day_of, days_of, first_days}
use Rattle.dates.specs.Dates.{day_number_of, date_at_of}
use Rattle.dates.specs.Lent.{day_number_in_of, date_in_of}
use Rattle.dates.specs.declared.date.Date.{Date}
use Rattle.dates.specs.declared.table.TheConstants.{FIRST_DAYS}
use Rattle.dates.proofs.MonthTests.{table_list}
use Rattle.dates.proofs.LentLaws.{lent_number, lent_date}

-- the table passes its test, which antt computes
pub table_days : FIRST_DAYS ≡ first_days
unfolding leap_of last_day_of days_of
table_days = table_list FIRST_DAYS (tt {0}) refl

pub table_number : (d : Date) → day_number_in_of FIRST_DAYS d ≡ day_number_of d
table_number d = ap (λ l. day_number_in_of l d) table_days ∙ lent_number d

pub table_date : (n : ℕ) → date_in_of FIRST_DAYS n ≡ date_at_of n
table_date n = ap (λ l. date_in_of l n) table_days ∙ lent_date n
