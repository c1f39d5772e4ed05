-- The one spelling of a certificate: fields of 8, 16 and 32 bits, the lowest byte first.
use Rattle.std.specs.Prelude.{ℕ, List, [], ◌∷◌, ◌++◌, length, Option, Some, None}
use Rattle.std.specs.List.{flat_map}
use Rattle.cert_note.specs.Words.{Version, Block, Equality, RegisterFact, Mode, Param, Vlen, EqualityTerm, Budget, VectorFact, OrderFact}
use Rattle.elf_image.specs.Words.{half, word}
use Rattle.region_mem.specs.declared.parameter.Mode.TheVariants.{Read, ReadWrite}
use Rattle.region_mem.specs.declared.parameter.Param.TheVariants as parameter
use Rattle.vreg_groups.specs.declared.vector_length.Vlen.TheVariants.{V128, V256, V512}
use Rattle.cert_note.specs.declared.values.Version.TheVariants.{V1, V2}
use Rattle.cert_note.specs.Certificate.{CertificateView}

abbrev pub version_code : Version → ℕ
version_code V1 = 1
version_code V2 = 2

abbrev pub vlen_code : Vlen → ℕ
vlen_code V128 = 1
vlen_code V256 = 2
vlen_code V512 = 3

-- the version, the vector length, and a zero
unfoldable pub header : Version → Vlen → List ℕ
header version vlen = half (version_code version) ++ (vlen_code vlen ∷ 0 ∷ [])

-- a kind, a mode, two bytes of zeros, and two numbers
unfoldable pub parameter_of : ℕ → ℕ → ℕ → ℕ → List ℕ
parameter_of kind mode a b = (kind ∷ mode ∷ []) ++ half 0 ++ word a ++ word b

abbrev pub mode_code : Mode → ℕ
mode_code Read = 1
mode_code ReadWrite = 3

unfoldable pub spelled_parameter : Param → List ℕ
spelled_parameter parameter.None = parameter_of 0 0 0 0
spelled_parameter (parameter.Scalar lo hi) = parameter_of 1 0 lo hi
spelled_parameter (parameter.Buffer mode size) = parameter_of 2 (mode_code mode) size 0

unfoldable pub spelled_term : EqualityTerm → List ℕ
spelled_term term = (term.atom ∷ []) ++ word term.coefficient

-- 255 where no equality is stated, else the number of terms, the constant and the terms
unfoldable pub spelled_equality : Option Equality → List ℕ
spelled_equality None = 255 ∷ []
spelled_equality (Some equality) =
    (length equality.terms.items ∷ []) ++ word equality.constant
    ++ flat_map spelled_term equality.terms.items

unfoldable pub spelled_fact : RegisterFact → List ℕ
spelled_fact fact =
    (fact.number ∷ []) ++ word fact.low ++ word fact.high ++ spelled_equality fact.equality

unfoldable pub spelled_vector : VectorFact → List ℕ
spelled_vector fact =
    (fact.register ∷ fact.width ∷ fact.registers ∷ 0 ∷ [])
    ++ half fact.count ++ half 0 ++ word fact.low ++ word fact.high

unfoldable pub spelled_order : OrderFact → List ℕ
spelled_order order = order.greater ∷ order.lesser ∷ []

unfoldable pub spelled_budget : Version → Budget → List ℕ
spelled_budget V1 budget = word budget.constant ++ word budget.factor ++ (budget.register ∷ [])
spelled_budget V2 budget =
    word budget.constant ++ word budget.factor ++ word budget.second_factor
    ++ (budget.register ∷ budget.second_register ∷ [])

-- whether the vector type is known, and its bits
unfoldable pub spelled_vtype : Option ℕ → List ℕ
spelled_vtype None = 0 ∷ 0 ∷ []
spelled_vtype (Some vtype) = 1 ∷ vtype ∷ []

-- how many facts there are on registers and on groups, in version 2 how many orders, and zeros
unfoldable pub counts : Version → ℕ → ℕ → ℕ → List ℕ
counts V1 registers vectors orders = registers ∷ vectors ∷ 0 ∷ 0 ∷ 0 ∷ []
counts V2 registers vectors orders = registers ∷ vectors ∷ orders ∷ 0 ∷ []

unfoldable pub spelled_block : Version → Block → List ℕ
spelled_block version block =
    word block.start ++ spelled_budget version block.budget ++ spelled_vtype block.vtype
    ++ counts version (length block.registers.items) (length block.vectors.items)
    (length block.orders.items)
    ++ flat_map spelled_fact block.registers.items ++ flat_map spelled_vector block.vectors.items
    ++ flat_map spelled_order block.orders.items

unfoldable pub spelling : CertificateView → List ℕ
spelling certificate =
    header certificate.version certificate.vlen ++ flat_map spelled_parameter certificate.parameters
    ++ half (length certificate.blocks) ++ half 0
    ++ flat_map (spelled_block certificate.version) certificate.blocks
