-- What a host learns of a kernel: its parameters, and its budget.
use Rattle.std.specs.Prelude.{ℕ, List, map}
use Rattle.region_mem.specs.declared.parameter.Mode.{Mode, TheVariants.Read, TheVariants.ReadWrite}
use Rattle.region_mem.specs.declared.parameter.Param.{Param}
use Rattle.region_mem.specs.declared.parameter.Param.TheVariants as param
use Rattle.cert_note.specs.declared.values.Budget.{Budget as Stated}
use Rattle.rvvbox_c.specs.declared.facts.Budget.{Budget}
use Rattle.rvvbox_c.specs.declared.facts.Parameter.{Parameter}

-- the kind of a buffer's place
abbrev pub kind_of : Mode → ℕ
kind_of ReadWrite = 2
kind_of Read = 3

-- a parameter in numbers; what it has not is 0
abbrev pub parameter_of : Param → Parameter
parameter_of param.None = record { kind = 0; lo = 0; hi = 0; size = 0 }
parameter_of (param.Scalar lo hi) = record { kind = 1; lo = lo; hi = hi; size = 0 }
parameter_of (param.Buffer mode size) =
    record { kind = kind_of mode; lo = 0; hi = 0; size = size }

abbrev pub parameters_told : List Param → List Parameter
parameters_told params = map parameter_of params

-- a budget in numbers
abbrev pub budget_of : Stated → Budget
budget_of b = record {
  constant = b.constant;
  factor = b.factor;
  number = b.register;
  second_factor = b.second_factor;
  second_number = b.second_register;
  reserved = 0;
}
