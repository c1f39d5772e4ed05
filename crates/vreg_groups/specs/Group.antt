-- The group of registers that an operand stands for, and the elements of the body that lie in it
-- ("Vector Register Grouping", "Mapping of Vector Elements to Vector Register State").
use Rattle.std.specs.Prelude.{◌≡◌, ◌⊎◌, ℕ, ◌+◌, ◌*◌, ◌/◌, Bool, List}
use Rattle.vreg_groups.specs.Words.{Count, Eew, Policy, Vtype, Width}
use Rattle.rv_decode.specs.declared.extents.Extent.TheVariants as extent
use Rattle.vreg_groups.specs.Elements.{bytes_from, elements_of}
use Rattle.vreg_groups.specs.Legality.{eew_bits, group_count, whole_count, IsInside}
use Rattle.vreg_groups.specs.NewElements.{write_of}
use Rattle.rv_decode.specs.Instructions.{bytes_of_width}

-- the first register and how many there are, the bytes of an element, and how many
-- elements the body has
pub record Span : Type 0 where
  pub first : ℕ
  pub count : ℕ
  pub bytes : ℕ
  pub vl : ℕ

-- the group from `first` on whose elements have this width
abbrev pub group_of : Vtype → ℕ → ℕ → Eew → Span
group_of t vl first eew =
    record { first = first; count = group_count t eew; bytes = eew_bits t.sew eew / 8; vl = vl }

-- the register of a mask, as bytes: those that hold the bits of vl elements are the body
abbrev pub mask_bytes_of : ℕ → ℕ → Span
mask_bytes_of vl first = record { first = first; count = 1; bytes = 1; vl = (vl + 7) / 8 }

-- whole registers as elements of this width, all of them in the body
abbrev pub whole_of : ℕ → ℕ → Count → Width → Span
whole_of vlenb first count width =
    record {
      first = first;
      count = whole_count count;
      bytes = bytes_of_width width;
      vl = whole_count count * vlenb / bytes_of_width width;
    }

-- the registers of a group exist, and its elements have 8 to 32 bits
abbrev pub IsGroupInside : Vtype → ℕ → Eew → Type 0
IsGroupInside t first eew = IsInside t (record { first = first; extent = extent.Group eew })

-- the elements of its body
unfoldable pub body_of : ℕ → Span → List ℕ → List ℕ
body_of vlenb group file = elements_of vlenb group.bytes group.first group.vl file

-- the bytes of those elements
unfoldable pub body_bytes : ℕ → Span → List ℕ → List ℕ
body_bytes vlenb group file = bytes_from (group.first * vlenb) (group.bytes * group.vl) file

-- an element has 8, 16 or 32 bits
abbrev pub IsSize : ℕ → Type 0
IsSize size = (size ≡ 1) ⊎ (size ≡ 2) ⊎ (size ≡ 4)

-- the registers after results were written to it
unfoldable pub written : ℕ → Span → Policy → List ℕ → List Bool → List ℕ → List ℕ
written vlenb group policy results active file =
    write_of vlenb group.bytes group.first group.count policy results active file
