-- What a certificate states, without where it lies in memory, and what makes it one.
use Rattle.std.specs.Prelude.{ℕ, ◌+◌, ◌*◌, ◌-◌, ◌%◌, ◌^◌, ◌==◌, Bool, true, false, ◌&&◌, ◌||◌, not, nat_le, nat_lt, is_some, List, [], ◌∷◌, length, Option, Some, None, if◌then◌else◌}
use Rattle.std.specs.Prelude.{◌≡◌, ◌<◌, ◌≤◌, IsTrue}
use Rattle.cert_note.specs.declared.values.Version.TheVariants.{V1, V2}
use Rattle.cert_note.specs.declared.values.TheConstants.{PARAMETER_ATOMS, PARAMETER_ATOMS_END}
use Rattle.std.specs.List.{list_all, list_any, slice_get, AllByRecursion}
use Rattle.std.specs.Option.{option_map_or}
use Rattle.cert_note.specs.Words.{Version, Param, Vlen, EqualityTerm, Budget, VectorFact, OrderFact, Equality, RegisterFact, Block, Contents}
use Rattle.region_mem.specs.Parameter.{is_valid}
use Rattle.region_mem.specs.declared.parameter.Param.TheVariants as parameter
use Rattle.vreg_groups.specs.VectorLength.{vlenb_of}
use Rattle.vreg_groups.specs.VectorType.{vtype_of}

pub record CertificateView : Type 0 where
  pub version : Version
  pub vlen : Vlen
  pub parameters : List Param
  pub blocks : List Block

abbrev pub view : {A : Type 0} → Contents A → CertificateView
view c = record {
  version = c.version;
  vlen = c.vlen;
  parameters = c.parameters;
  blocks = c.blocks.items;
}

-- The place has a scalar.
unfoldable pub is_scalar : Param → Bool
is_scalar parameter.None = false
is_scalar (parameter.Scalar lo hi) = true
is_scalar (parameter.Buffer mode size) = false

-- A register or vl at the block's start, or the entry value of a scalar.
unfoldable pub is_atom : List Param → ℕ → Bool
is_atom params atom =
    (nat_le 1 atom && nat_le atom 32)
    || (nat_le PARAMETER_ATOMS atom && nat_lt atom PARAMETER_ATOMS_END
    && option_map_or is_scalar (slice_get params (atom - PARAMETER_ATOMS)) false)

-- The interval holds every number of this many bits.
unfoldable pub is_full : ℕ → ℕ → ℕ → Bool
is_full bits low high = (low == 0) && (high == 2 ^ bits - 1)

-- A register is named exactly where the factor is not 0.
unfoldable pub is_budget : ℕ → ℕ → Bool
is_budget factor register =
    if factor == 0 then register == 0 else (nat_le 1 register && nat_le register 31)

-- There is a second factor only beside a first one; it has a register above the first, and
-- else none is named.
unfoldable pub is_second : ℕ → ℕ → ℕ → ℕ → Bool
is_second factor register second second_register =
    if second == 0 then second_register == 0
    else (nat_lt 0 factor && nat_lt register second_register && nat_le second_register 31)

-- 8, 16 or 32 bits
unfoldable pub is_width : ℕ → Bool
is_width width = (width == 8) || (width == 16) || (width == 32)

-- 1, 2, 4 or 8 registers from a multiple of that number on
unfoldable pub is_group : ℕ → ℕ → Bool
is_group register registers =
    ((registers == 1) || (registers == 2) || (registers == 4) || (registers == 8))
    && (register % registers == 0)

-- at most as many elements as the group has
unfoldable pub is_count : Vlen → ℕ → ℕ → ℕ → Bool
is_count vlen width registers count = nat_le (count * width) (registers * (8 * vlenb_of vlen))

-- an interval of numbers of this many bits, that is not all of them
unfoldable pub is_interval : ℕ → ℕ → ℕ → Bool
is_interval width low high =
    nat_le low high && nat_lt high (2 ^ width) && not (is_full width low high)

-- The register of this number has a fact with an equality.
unfoldable pub is_equated : List RegisterFact → ℕ → Bool
is_equated facts number = list_any (λ fact. (fact.number == number) && is_some fact.equality) facts

-- No atom of the equality is a register that has an equality itself.
unfoldable pub is_free : List RegisterFact → Option Equality → Bool
is_free facts None = true
is_free facts (Some equality) =
    list_all (λ term. not (is_equated facts term.atom)) equality.terms.items

-- No atom of the equality passes a test.
abbrev pub has_no_atom : (ℕ → Bool) → Option Equality → Bool
has_no_atom test None = true
has_no_atom test (Some equality) =
    list_all (λ term. not (test term.atom)) equality.terms.items

unfoldable pub are_free : List RegisterFact → Bool
are_free facts = list_all (λ fact. is_free facts fact.equality) facts

-- A register from a number on, or vl, that has no equality.
unfoldable pub is_greater : List RegisterFact → ℕ → ℕ → Bool
is_greater facts from greater =
    nat_le from greater && nat_le greater 32 && not (is_equated facts greater)

-- Another register, or vl, that has no equality.
unfoldable pub is_lesser : List RegisterFact → ℕ → ℕ → Bool
is_lesser facts greater lesser =
    nat_le 1 lesser && nat_le lesser 32 && not (lesser == greater) && not (is_equated facts lesser)

-- Each item is valid from the number that the one before it leaves.
abbrev pub AllFrom : {A : Type 0} → (ℕ → A → Type 0) → (A → ℕ) → ℕ → List A → Type 0
AllFrom Valid next from [] = Unit {0}
AllFrom Valid next from (x ∷ xs) = Valid from x × AllFrom Valid next (next x) xs

-- Terms rise by their atoms, facts on registers by their numbers, facts on groups by their
-- registers, orders by their greater registers, blocks by their starts.
abbrev pub after_term : EqualityTerm → ℕ
after_term term = term.atom + 1

abbrev pub after_fact : RegisterFact → ℕ
after_fact fact = fact.number + 1

abbrev pub after_vector : VectorFact → ℕ
after_vector fact = fact.register + fact.registers

abbrev pub after_order : OrderFact → ℕ
after_order order = order.greater + 1

abbrev pub after_block : Block → ℕ
after_block block = block.start + 1

pub record IsTerm (params : List Param) (from : ℕ) (term : EqualityTerm) : Type 0 where
  pub atom : IsTrue (nat_le from term.atom && is_atom params term.atom)
  pub coefficient : IsTrue (nat_lt 0 term.coefficient)
  pub fits : term.coefficient < 2 ^ 32

pub record IsEquality (params : List Param) (equality : Equality) : Type 0 where
  pub few : length equality.terms.items ≤ 8
  pub constant : equality.constant < 2 ^ 32
  pub terms : AllFrom (IsTerm params) after_term 1 equality.terms.items

-- Where no equality is stated the interval says something.
abbrev pub SaysMore : List Param → ℕ → ℕ → Option Equality → Type 0
SaysMore params low high None = IsTrue (not (is_full 32 low high))
SaysMore params low high (Some equality) = IsEquality params equality

pub record IsRegisterFact (params : List Param) (from : ℕ) (fact : RegisterFact) : Type 0 where
  pub number : IsTrue (nat_le from fact.number && nat_le fact.number 32)
  pub low : fact.low < 2 ^ 32
  pub high : fact.high < 2 ^ 32
  pub interval : IsTrue (nat_le fact.low fact.high)
  pub says : SaysMore params fact.low fact.high fact.equality

pub record IsVectorFact (vlen : Vlen) (from : ℕ) (fact : VectorFact) : Type 0 where
  pub register : IsTrue (nat_le from fact.register && nat_le fact.register 31)
  pub width : IsTrue (is_width fact.width)
  pub group : IsTrue (is_group fact.register fact.registers)
  pub count : IsTrue (is_count vlen fact.width fact.registers fact.count)
  pub count_fits : fact.count < 2 ^ 16
  pub low : fact.low < 2 ^ 32
  pub high : fact.high < 2 ^ 32
  pub interval : IsTrue (is_interval fact.width fact.low fact.high)

pub record IsBudgetOf (budget : Budget) : Type 0 where
  pub constant : budget.constant < 2 ^ 32
  pub factor : budget.factor < 2 ^ 32
  pub register : IsTrue (is_budget budget.factor budget.register)
  pub second_factor : budget.second_factor < 2 ^ 32
  pub second : IsTrue
      (is_second budget.factor budget.register budget.second_factor budget.second_register)

pub record IsOrderFact (facts : List RegisterFact) (from : ℕ) (order : OrderFact) : Type 0 where
  pub greater : IsTrue (is_greater facts from order.greater)
  pub lesser : IsTrue (is_lesser facts order.greater order.lesser)

abbrev pub IsVtype : Option ℕ → Type 0
IsVtype None = Unit {0}
IsVtype (Some vtype) = IsTrue (is_some (vtype_of vtype))

-- Only version 2 can say these.
abbrev pub IsOf : Version → Block → Type 0
IsOf V1 block = (block.budget.second_factor ≡ 0) × (block.orders.items ≡ [])
IsOf V2 block = Unit {0}

pub record IsBlock
    (version : Version) (vlen : Vlen) (params : List Param) (from : ℕ)
    (block : Block) : Type 0 where
  pub start : IsTrue (nat_le from block.start && (block.start % 4 == 0))
  pub start_fits : block.start < 2 ^ 32
  pub budget : IsBudgetOf block.budget
  pub vtype : IsVtype block.vtype
  pub few_registers : length block.registers.items ≤ 32
  pub few_vectors : length block.vectors.items ≤ 32
  pub few_orders : length block.orders.items ≤ 32
  pub registers : AllFrom (IsRegisterFact params) after_fact 1 block.registers.items
  pub vectors : AllFrom (IsVectorFact vlen) after_vector 0 block.vectors.items
  pub orders : AllFrom (IsOrderFact block.registers.items) after_order 1 block.orders.items
  pub free : IsTrue (are_free block.registers.items)
  pub of : IsOf version block

-- A scalar's numbers fit 32 bits; the size of a buffer that is valid does.
abbrev pub FitsWords : Param → Type 0
FitsWords parameter.None = Unit {0}
FitsWords (parameter.Scalar lo hi) = hi < 2 ^ 32
FitsWords (parameter.Buffer mode size) = Unit {0}

-- a parameter that is valid
abbrev pub IsParameter : Param → Type 0
IsParameter param = IsTrue (is_valid param) × FitsWords param

-- what makes these values a certificate
pub record IsCertificate (certificate : CertificateView) : Type 0 where
  pub eight : length certificate.parameters ≡ 8
  pub parameters : AllByRecursion IsParameter certificate.parameters
  pub few : length certificate.blocks ≤ 1024
  pub blocks :
      AllFrom (IsBlock certificate.version certificate.vlen certificate.parameters) after_block 0
      certificate.blocks
