-- That what is known is true of a machine, throughout a run.
use Rattle.std.specs.Prelude.{ℕ, ◌≡◌, ◌<◌, ◌≤◌, ◌+◌, ◌*◌, ◌/◌, ◌==◌, min, if◌then◌else◌, List, length, Option, Some, None, IfSome}
use Rattle.std.specs.List.{AllByRecursion}
use Rattle.abs_state.specs.Words.{ImageView, AgreesWith, IsCodeSafe, AreBytes, vlenb_of, Hart, IsHart, reg_of, Machine, Vectors, Budget, VectorFact, Block, CertificateView}
use Rattle.region_mem.specs.Laws.{HasCode}
use Rattle.vreg_groups.specs.Elements.{element_at}
use Rattle.scalar_core.specs.Arithmetic.{is_taken}
use Rattle.vector_core.specs.KeepLaws.{AreRegisters}
use Rattle.vector_core.specs.Vectors.{IsVectors}
use Rattle.abs_state.specs.declared.state.Way.{Way}
use Rattle.abs_state.specs.declared.state.Way.TheVariants.{To, Unknown, Fork}
use Rattle.abs_domain.specs.BlockLaws.{FactIsTrue, OrderIsTrue, number_in}
use Rattle.abs_domain.specs.Described.{IsNumber}
use Rattle.abs_domain.specs.Holds.{Holds, number_of}
use Rattle.abs_domain.specs.Memories.{HasZones}
use Rattle.abs_domain.specs.Zones.{zones_of}
use Rattle.abs_transfer.specs.Facts.{elements_in}
use Rattle.abs_state.specs.State.{AbstractView}
use Rattle.abs_state.specs.Branches.{EdgeView, table_on, value_on}

-- What stays the same throughout a run: the image, its certificate, and the numbers
-- that were passed.
pub record Setting : Type 0 where
  pub image : ImageView
  pub certificate : CertificateView
  pub passed : ℕ → ℕ

abbrev pub vlenb_in : Setting → ℕ
vlenb_in e = vlenb_of e.certificate.vlen

-- ---- what is true of every state of a run

pub record IsProper (e : Setting) (m : Machine) : Type 0 where
  pub hart : IsHart m.hart
  pub vectors : IsVectors (vlenb_in e) m.vectors
  pub registers : AreRegisters (vlenb_in e) m.vectors.registers
  pub bytes : AreBytes m.memory
  pub zones : HasZones (zones_of e.image e.certificate.parameters) m.memory
  pub code : HasCode e.image m.memory
  pub safe : IsCodeSafe m.memory

-- ---- facts

-- of how many elements a fact on vector registers speaks; a count of 0 stands for vl
abbrev pub count_of : ℕ → ℕ → VectorFact → ℕ
count_of vlenb vl fact =
    min (if fact.count == 0 then vl else fact.count) (elements_in vlenb fact)

abbrev pub fact_element : ℕ → List ℕ → VectorFact → ℕ → ℕ
fact_element vlenb registers fact i =
    element_at (fact.width / 8) (fact.register * vlenb) registers i

-- The first elements of the fact's group lie in its interval.
abbrev pub IsTrueOf : ℕ → ℕ → List ℕ → VectorFact → Type 0
IsTrueOf vlenb vl registers fact =
    (i : ℕ) → i < count_of vlenb vl fact
    → (fact.low ≤ fact_element vlenb registers fact i)
    × (fact_element vlenb registers fact i ≤ fact.high)

abbrev pub AreTrueOf : ℕ → Vectors → List VectorFact → Type 0
AreTrueOf vlenb v facts = AllByRecursion (IsTrueOf vlenb v.config.vl v.registers) facts

-- the numbers of a block's atoms where it begins
abbrev pub number_at : Setting → Machine → ℕ → ℕ
number_at e m = number_in e.passed m.hart m.vectors.config

abbrev pub VtypeHolds : Option ℕ → Machine → Type 0
VtypeHolds vtype m = IfSome vtype (λ t. m.vectors.config.vtype ≡ t)

-- The machine stands at the block's start, where all that the block states is true.
pub record Fits (e : Setting) (block : Block) (m : Machine) : Type 0 where
  pub pc : m.hart.pc ≡ block.start
  pub facts : AllByRecursion (FactIsTrue (number_at e m)) block.registers.items
  pub orders : AllByRecursion (OrderIsTrue (number_at e m)) block.orders.items
  pub vtype : VtypeHolds block.vtype m
  pub vectors : AreTrueOf (vlenb_in e) m.vectors block.vectors.items
  pub proper : IsProper e m

-- ---- states and edges

-- what a budget comes to where its registers hold these numbers
abbrev pub budget_with : Budget → ℕ → ℕ → ℕ
budget_with budget x y = budget.constant + budget.factor * x + budget.second_factor * y

-- what it comes to where each register holds its number
abbrev pub budget_at : Budget → (ℕ → ℕ) → ℕ
budget_at budget number =
    budget_with budget (number budget.register) (number budget.second_register)

-- what it comes to in a state
abbrev pub budget_of : Budget → Hart → ℕ
budget_of budget h = budget_at budget (λ r. reg_of r h)

-- The budget came to n where the block began: the numbers of its registers then are what
-- is known of them.
abbrev pub IsPaid : (ℕ → ℕ) → ℕ → Option Budget → AbstractView → Type 0
IsPaid v n None a = Unit {0}
IsPaid v n (Some budget) a =
    (x : ℕ) × (y : ℕ) × (n ≡ budget_with budget x y)
    × IsNumber (length a.numbers.atoms) v a.paid x
    × IsNumber (length a.numbers.atoms) v a.second_paid y

-- The numbers of the atoms are those that were passed from the first atom of a parameter on, and all that is known holds
-- of the machine.
pub record IsKnown (e : Setting) (v : ℕ → ℕ) (n : ℕ) (a : AbstractView) (m : Machine) : Type 0 where
  pub vlenb : a.vlenb ≡ vlenb_in e
  pub count : 41 ≤ length a.numbers.atoms
  pub passed : (place : ℕ) → place < 8 → v (33 + place) ≡ e.passed place
  pub known : Holds a.numbers v m.hart m.vectors.config
  pub zones : a.zones ≡ zones_of e.image e.certificate.parameters
  pub vtype : VtypeHolds a.vtype m
  pub groups : AreTrueOf (vlenb_in e) m.vectors a.groups
  pub paid : IsPaid v n a.budget a
  pub proper : IsProper e m

-- The machine is where the last instruction leads.
abbrev pub IsAt : Way → Hart → Type 0
IsAt (To target) h = h.pc ≡ target
IsAt Unknown h = Unit {0}
IsAt (Fork condition rs1 rs2 target next) h =
    (rs1 < 32) × (rs2 < 32)
    × (h.pc ≡ (if is_taken condition (reg_of rs1 h) (reg_of rs2 h) then target else next))

-- What is known is true of the machine; the block's budget came to n where it began.
pub record Held (e : Setting) (n : ℕ) (a : AbstractView) (m : Machine) : Type 0 where
  pub numbers : ℕ → ℕ
  pub known : IsKnown e numbers n a m
  pub way : IsAt a.way m.hart

-- The edge leads to the machine: what is known on it is true there.
pub record Goes (e : Setting) (n : ℕ) (edge : EdgeView) (m : Machine) : Type 0 where
  pub numbers : ℕ → ℕ
  pub known : IsKnown e numbers n edge.state m
  pub atoms : AgreesWith (table_on edge) numbers
  pub each : (i : ℕ) → i < 33
      → IsNumber (length edge.state.numbers.atoms) numbers (value_on edge i)
      (number_of i m.hart m.vectors.config)
  pub target : IfSome edge.target (λ pc. m.hart.pc ≡ pc)
  pub said : IfSome edge.said (λ s. is_taken s.condition
      (number_of s.rs1 m.hart m.vectors.config) (number_of s.rs2 m.hart m.vectors.config)
      ≡ s.taken)
