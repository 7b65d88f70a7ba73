-- Why a call puts no page. Only the code speaks of it: the rule is `page_reply`.
use Rattle.page.specs.declared.NotPaged.{NotPaged}
use Rattle.page.specs.declared.NotPaged.TheVariants.{Unsound, NoTable, Short}
use Rattle.call_rules.specs.declared.Refused.{Refused}
use Rattle.call_rules.specs.declared.Refused.TheVariants as R

abbrev pub refused_page : NotPaged → Refused
refused_page Unsound = R.Unsound
refused_page NoTable = R.NoTable
refused_page (Short n) = R.ShortPage n
