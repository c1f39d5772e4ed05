-- The vector loads and stores as text ("Vector Loads and Stores"): the data's group is vd of a load
-- and vs3 of a store.
use Rattle.std.specs.Prelude.{ℕ, true, false, not, List, [], ◌∷◌, codes}
use Rattle.rv_decode.specs.declared.instructions.{Direction.Direction, Addressing.Addressing, VMem.VMem}
use Rattle.rv_decode.specs.declared.instructions.Direction.TheVariants.{Load, Store}
use Rattle.rv_decode.specs.declared.instructions.Addressing.TheVariants.{Unit, Strided, Indexed, Mask, Whole}
use Rattle.rv_listing.specs.Fields.{line_text}
use Rattle.rv_listing.specs.Names.{whole_load_name, whole_store_name, width_form}
use Rattle.rv_listing.specs.declared.fields.Field.{Field}
use Rattle.rv_listing.specs.declared.fields.Field.TheVariants.{Vd, Vs3, Rs1, Rs2, Vs2, Vm}

-- the mnemonic, before the width of its elements
abbrev pub access_name : Direction → Addressing → List ℕ
access_name Load (Unit width masked) = codes "vle"
access_name Load (Strided width rs2 masked) = codes "vlse"
access_name Load (Indexed width vs2 true masked) = codes "vloxei"
access_name Load (Indexed width vs2 false masked) = codes "vluxei"
access_name Load Mask = codes "vlm"
access_name Load (Whole width count) = whole_load_name count
access_name Store (Unit width masked) = codes "vse"
access_name Store (Strided width rs2 masked) = codes "vsse"
access_name Store (Indexed width vs2 true masked) = codes "vsoxei"
access_name Store (Indexed width vs2 false masked) = codes "vsuxei"
access_name Store Mask = codes "vsm"
access_name Store (Whole width count) = whole_store_name count

-- what follows: the width, but of masks and of stores of whole registers
abbrev pub access_form : Direction → Addressing → List ℕ
access_form direction (Unit width masked) = width_form width
access_form direction (Strided width rs2 masked) = width_form width
access_form direction (Indexed width vs2 ordered masked) = width_form width
access_form direction Mask = codes ".v"
access_form Load (Whole width count) = width_form width
access_form Store (Whole width count) = codes ".v"

abbrev pub values_field : Direction → ℕ → Field
values_field Load values = Vd values
values_field Store values = Vs3 values

abbrev pub place_fields : Field → ℕ → Addressing → List Field
place_fields values rs1 (Unit width masked) = values ∷ Rs1 rs1 ∷ Vm (not masked) ∷ []
place_fields values rs1 (Strided width rs2 masked) =
    values ∷ Rs1 rs1 ∷ Rs2 rs2 ∷ Vm (not masked) ∷ []
place_fields values rs1 (Indexed width vs2 ordered masked) =
    values ∷ Rs1 rs1 ∷ Vs2 vs2 ∷ Vm (not masked) ∷ []
place_fields values rs1 Mask = values ∷ Rs1 rs1 ∷ Vm true ∷ []
place_fields values rs1 (Whole width count) = values ∷ Rs1 rs1 ∷ Vm true ∷ []

unfoldable pub access_text : VMem → List ℕ
access_text i =
    line_text (access_name i.direction i.place) (access_form i.direction i.place)
    (place_fields (values_field i.direction i.values) i.rs1 i.place)
