-- Single elements: element 0 of a register, outside the rules on groups.
use Rattle.std.specs.Prelude.{ℕ, ◌*◌, ◌==◌, true, List, [], ◌∷◌, if◌then◌else◌}
use Rattle.vreg_groups.specs.{Elements.element_at, NewElements.policy_of, NewElements.write_of}
use Rattle.vector_core.specs.Words.{Setup}

-- element 0, of `size` bytes, of a register
abbrev pub first_element : ℕ → ℕ → ℕ → List ℕ → ℕ
first_element vlenb size register file = element_at size (register * vlenb) file 0

-- the registers after element 0 of a register was written, whose rest is tail. Where vl is 0
-- nothing is.
unfoldable pub first_written : ℕ → Setup → ℕ → ℕ → ℕ → List ℕ → List ℕ
first_written vlenb s size register result file =
    if s.vl == 0 then file
    else write_of vlenb size register 1 (policy_of s.agnostic s.vtype)
    (result ∷ []) (true ∷ []) file
