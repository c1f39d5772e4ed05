-- That what is known of the registers and of vl is true of a hart.
use Rattle.std.specs.Prelude.{ℕ, ◌≡◌, ◌<◌, ◌≤◌, ◌==◌, if◌then◌else◌, List, length, Some}
use Rattle.abs_domain.specs.Words.{Atom, Split, AgreesWith, Vconfig, Hart, IsHart, reg_of}
use Rattle.linear_facts.specs.Ranges.{split_at}
use Rattle.scalar_core.specs.Hart.{with_reg}
use Rattle.abs_domain.specs.declared.values.Effect.{Effect}
use Rattle.abs_domain.specs.Numbers.{NumbersView, table_with, value_at, with_result}
use Rattle.abs_domain.specs.Described.{IsNumber, Describes}
use Rattle.abs_domain.specs.declared.numbers.TheConstants.{NUMBERS}

-- the number of register i, or of vl for 32
abbrev pub number_of : ℕ → Hart → Vconfig → ℕ
number_of i h config = if i == 32 then config.vl else reg_of i h

-- The parts of each atom that was split are among the atoms.
abbrev pub AreSplitsBelow : List Atom → Type 0
AreSplitsBelow atoms =
    (a : ℕ) (s : Split) → split_at (table_with atoms) a ≡ Some s
    → (s.first < length atoms) × (s.second < length atoms)

-- What is known is true of a hart and of vl where atom a is the number v a.
pub record Holds (s : NumbersView) (v : ℕ → ℕ) (h : Hart) (config : Vconfig) : Type 0 where
  pub atoms : AgreesWith (table_with s.atoms) v
  pub splits : AreSplitsBelow s.atoms
  pub forms : length s.forms ≡ NUMBERS
  pub ranges : length s.ranges ≡ NUMBERS
  pub each : (i : ℕ) → i < NUMBERS → IsNumber (length s.atoms) v (value_at s i) (number_of i h config)

-- What is known next is true of the next hart, with the same numbers for the atoms that there were.
pub record Follows (old new : NumbersView) (v : ℕ → ℕ) (h : Hart) (config : Vconfig) : Type 0 where
  pub numbers : ℕ → ℕ
  pub same : (a : ℕ) → a < length old.atoms → numbers a ≡ v a
  pub grows : length old.atoms ≤ length new.atoms
  pub holds : Holds new numbers h config

-- A number that an effect describes may be put into its register, in what is known and in the
-- hart; x0 stays.
abbrev pub ResultsHold : Type 0
ResultsHold =
    (s : NumbersView) (v : ℕ → ℕ) (h : Hart) (config : Vconfig) (rd x : ℕ) (e : Effect) → IsHart h
    → rd < 32 → Holds s v h config → Describes (length s.atoms) v e x
    → Follows s (with_result rd e s) v (with_reg rd x h) config
