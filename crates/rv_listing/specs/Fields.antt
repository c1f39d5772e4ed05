-- The operand fields of a listing: ` name=value` each.
use Rattle.std.specs.Prelude.{ℕ, List, [], ◌∷◌, ◌++◌, codes, true, false}
use Rattle.std.specs.Fmt.{decimal, signed_decimal}
use Rattle.rv_listing.specs.Names.{csr_digits}
use Rattle.rv_listing.specs.Pieces.{word_text}
use Rattle.rv_listing.specs.declared.fields.Field.{Field}
use Rattle.rv_listing.specs.declared.fields.Field.TheVariants.{Rd, Vd, Vs3, Rs1, Rs2, Vs2, Vs1, Avl, Imm, Upper, Amount, Csr, To, Vm}

-- a register, by its number
abbrev pub register_text : List ℕ → ℕ → List ℕ
register_text name r = codes " " ++ (name ++ (codes "=" ++ decimal r))

-- a signed immediate and an unsigned one are decimal; a word's upper bits and a jump's target have
-- eight hexadecimal digits, a CSR's number three; vm is 0 where the mask governs
abbrev pub field_text : Field → List ℕ
field_text (Rd r) = register_text (codes "rd") r
field_text (Vd r) = register_text (codes "vd") r
field_text (Vs3 r) = register_text (codes "vs3") r
field_text (Rs1 r) = register_text (codes "rs1") r
field_text (Rs2 r) = register_text (codes "rs2") r
field_text (Vs2 r) = register_text (codes "vs2") r
field_text (Vs1 r) = register_text (codes "vs1") r
field_text (Avl length) = codes " avl=" ++ decimal length
field_text (Imm imm) = codes " imm=" ++ signed_decimal imm
field_text (Upper imm) = codes " imm=" ++ word_text imm
field_text (Amount imm) = codes " imm=" ++ decimal imm
field_text (Csr csr) = codes " csr=" ++ csr_digits csr
field_text (To target) = codes " to=" ++ word_text target
field_text (Vm true) = codes " vm=1"
field_text (Vm false) = codes " vm=0"

-- fields in their order
abbrev pub fields_text : List Field → List ℕ
fields_text [] = []
fields_text (f ∷ fs) = field_text f ++ fields_text fs

-- a mnemonic, its suffix and the fields
abbrev pub line_text : List ℕ → List ℕ → List Field → List ℕ
line_text name form fields = name ++ (form ++ fields_text fields)
