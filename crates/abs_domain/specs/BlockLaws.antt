-- That what is known where a block or a run begins is true of the hart there.
use Rattle.std.specs.Prelude.{ℕ, ◌≡◌, ◌<◌, ◌≤◌, ◌-◌, ◌^◌, ◌==◌, nat_le, if◌then◌else◌, List, length, Option, Some, None, find, unwrap_or, IfSome}
use Rattle.std.specs.List.{AllByRecursion, slice_get}
use Rattle.abs_domain.specs.Words.{value, Vconfig, Hart, IsHart, reg_of, Param, RegisterFact, OrderFact, Block, CertificateView, IsCertificate}
use Rattle.region_mem.specs.declared.parameter.Param.TheVariants as parameter
use Rattle.region_mem.specs.Parameter.{address_of}
use Rattle.scalar_core.specs.Entry.{entry_number}
use Rattle.abs_domain.specs.Holds.{Holds, number_of}
use Rattle.abs_domain.specs.Numbers.{NumbersView}
use Rattle.abs_domain.specs.Starts.{equality_form, start_numbers, entry_numbers}

-- what is passed for a parameter: 0 for none, a number in its interval for a scalar, the buffer's
-- address for a buffer
abbrev pub IsPassed : List Param → ℕ → Option Param → ℕ → Type 0
IsPassed params place None x = x ≡ 0
IsPassed params place (Some parameter.None) x = x ≡ 0
IsPassed params place (Some (parameter.Scalar lo hi)) x = (lo ≤ x) × (x ≤ hi)
IsPassed params place (Some (parameter.Buffer mode size)) x =
    x ≡ unwrap_or (address_of place params) 0

-- Numbers of 32 bits were passed, each for its parameter.
pub record ArePassed (params : List Param) (passed : ℕ → ℕ) : Type 0 where
  pub fit : (place : ℕ) → passed place < 2 ^ 32
  pub each : (place : ℕ) → place < 8 → IsPassed params place (slice_get params place) (passed place)

-- the numbers of registers and vl below 33, and from there on those that were passed
abbrev pub number_in : (ℕ → ℕ) → Hart → Vconfig → ℕ → ℕ
number_in passed h config a = if nat_le a 32 then number_of a h config else passed (a - 33)

-- The number lies in its interval, and is equal to the sum that is stated.
pub record FactIsTrue (v : ℕ → ℕ) (fact : RegisterFact) : Type 0 where
  pub low : fact.low ≤ v fact.number
  pub high : v fact.number ≤ fact.high
  pub equality : IfSome fact.equality (λ equality. v fact.number ≡ value v (equality_form equality))

-- The lesser register's number is at most the greater one's.
abbrev pub OrderIsTrue : (ℕ → ℕ) → OrderFact → Type 0
OrderIsTrue v order = v order.lesser ≤ v order.greater

-- What is known is true of a hart and of vl, for numbers of the atoms that are those of v for the
-- first 41: the registers, vl and what was passed.
pub record HoldsWith (s : NumbersView) (v : ℕ → ℕ) (h : Hart) (config : Vconfig) : Type 0 where
  pub numbers : ℕ → ℕ
  pub same : (a : ℕ) → a < 41 → numbers a ≡ v a
  pub grows : 41 ≤ length s.atoms
  pub holds : Holds s numbers h config

-- Where all facts and orders of a block are true of a hart and vl, what is known at the
-- block's start is.
abbrev pub BlockNumbersHold : Type 0
BlockNumbersHold =
    (certificate : CertificateView) (block : Block) (address : ℕ) (passed : ℕ → ℕ) (h : Hart)
    (config : Vconfig) → IsCertificate certificate
    → find (λ b. b.start == address) certificate.blocks ≡ Some block
    → ArePassed certificate.parameters passed → IsHart h → config.vl < 2 ^ 32
    → AllByRecursion (FactIsTrue (number_in passed h config)) block.registers.items
    → AllByRecursion (OrderIsTrue (number_in passed h config)) block.orders.items
    → HoldsWith (start_numbers certificate.parameters block.registers.items block.orders.items)
    (number_in passed h config) h config

-- Each register of a hart holds what it does at the start of a run.
abbrev pub IsEntry : (ℕ → ℕ) → Hart → Type 0
IsEntry passed h = (i : ℕ) → i < 32 → reg_of i h ≡ entry_number passed i

-- What is known where a run begins is true of such a hart, where vl is 0.
abbrev pub EntryNumbersHold : Type 0
EntryNumbersHold =
    (params : List Param) (passed : ℕ → ℕ) (h : Hart) (config : Vconfig) → ArePassed params passed
    → IsHart h → IsEntry passed h → config.vl ≡ 0
    → Holds (entry_numbers params) (number_in passed h config) h config
