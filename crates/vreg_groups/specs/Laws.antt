-- What a write makes of one element, of one mask bit and of the other bytes.
use Rattle.std.specs.Prelude.{◌≡◌, ℕ, ◌-◌, ◌*◌, ◌^◌, Bool, true, List}
use Rattle.vreg_groups.specs.Words.{Policy}
use Rattle.vreg_groups.specs.Elements.{element_at, mask_bit}
use Rattle.vreg_groups.specs.NewElements.{new_element, write_of, mask_write_of}

-- element i of the group that begins at register `first` becomes the new element
abbrev pub ElementIsNew : ℕ → ℕ → ℕ → ℕ → Policy → List ℕ → List Bool → List ℕ → ℕ → Type 0
ElementIsNew vlenb size first count policy results active file i =
    element_at size (first * vlenb) (write_of vlenb size first count policy results active file) i
    ≡ new_element policy (256 ^ size - 1) results active i (element_at size (first * vlenb) file i)

-- mask bit i of a register becomes the new bit
abbrev pub MaskBitIsNew : ℕ → ℕ → Policy → List Bool → List Bool → List ℕ → ℕ → Type 0
MaskBitIsNew vlenb register policy results active file i =
    mask_bit vlenb register (mask_write_of vlenb register policy results active file) i
    ≡ new_element policy true results active i (mask_bit vlenb register file i)
