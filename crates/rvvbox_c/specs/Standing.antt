-- A run that was opened, as a type.
use denote.RattleType.{RattleType}
use Rattle.rvvbox_c.specs.contracts.opened.Open as opened

abbrev pub open_row : RattleType
open_row = opened.the_row

abbrev pub OpenView : Type 0
OpenView = open_row.Denot
