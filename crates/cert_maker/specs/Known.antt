-- What is known of the numbers of a loop, word by word, while it is read.
use Rattle.std.specs.Prelude.{ℕ, ◌≡◌, ◌≢◌, ◌<◌, ◌≤◌, ◌+◌, ◌-◌, ◌*◌, ◌^◌, Bool, true, false, min, List, [], ◌∷◌, length, Some, None}
use Rattle.std.specs.List.{slice_get}
use Rattle.linear_facts.specs.Forms.{Linear, number_form, atom_form}
use Rattle.linear_facts.specs.LoopForms.{term, IsSize, IsLoop, pointer_form, moved_form, left_form}
use Rattle.region_mem.specs.declared.parameter.Mode.{Mode}
use Rattle.region_mem.specs.declared.parameter.Param.TheVariants as parameter
use Rattle.region_mem.specs.Parameter.{address_of}
use Rattle.scalar_core.specs.Hart.{exit}
use Rattle.abs_domain.specs.Values.{ValueView, just}
use Rattle.abs_domain.specs.Numbers.{NumbersView, table_of, value_at}
use Rattle.abs_domain.specs.Zones.{zones_of}
use Rattle.abs_state.specs.State.{AbstractView}
use Rattle.cert_maker.specs.declared.loops.Loop.{Loop}
use Rattle.cert_maker.specs.declared.loops.Reading.{Reading}
use Rattle.cert_maker.specs.declared.loops.Reading.TheVariants.{Works, Moves, Back, Through}
use Rattle.block_checker.specs.Passes.{block_at}
use Rattle.cert_maker.specs.Words.{ImageView, Param, CertificateView}
use Rattle.cert_maker.specs.Loops.{size_of, is_flagged}
use Rattle.cert_maker.specs.Certificates.{base_of, budget, block, facts_by, loop_facts}

-- A loop that was read through, with what its image and its parameters are; `least` of the count's
-- declared interval, and `limit`, which is VLMAX.
pub record Round : Type 0 where
  pub image : ImageView
  pub params : List Param
  pub start : ℕ
  pub words : ℕ
  pub least : ℕ
  pub limit : ℕ
  pub loop : Loop

abbrev pub known : Linear → ℕ → ℕ → ValueView
known form lo hi = record { form = form; range = record { lo = lo; hi = hi } }

-- the bytes of the elements that a buffer has to have
abbrev pub bytes_of : Loop → ℕ
bytes_of loop = size_of loop * loop.most

-- The buffer at a place has room for the most elements, and so do the numbers below and
-- above its address.
pub record HasRoom (params : List Param) (loop : Loop) (place : ℕ) : Type 0 where
  pub access : Mode
  pub size : ℕ
  pub is : slice_get params place ≡ Some (parameter.Buffer access size)
  pub room : bytes_of loop ≤ size
  pub address : address_of place params ≡ Some (base_of params place)
  pub low : bytes_of loop ≤ base_of params place
  pub high : base_of params place + bytes_of loop + bytes_of loop < 2 ^ 32

abbrev pub is_pointer : Loop → ℕ → Bool
is_pointer loop place = is_flagged (place + 10) loop.pointers

-- What is true of each loop that was read through.
pub record IsRound (k : Round) : Type 0 where
  pub count_low : 10 ≤ k.loop.count
  pub count_high : k.loop.count < 18
  pub count_is : slice_get k.params (k.loop.count - 10)
      ≡ Some (parameter.Scalar k.least k.loop.most)
  pub length_low : 2 ≤ k.loop.length
  pub length_high : k.loop.length < 32
  pub length_other : k.loop.length ≢ k.loop.count
  pub size : IsSize (size_of k.loop)
  pub some : 1 ≤ k.loop.most
  pub least : k.least ≤ k.loop.most
  pub fits : k.loop.most < 2 ^ 32
  pub progress : 1 ≤ k.limit
  pub short : k.limit < 2 ^ 30
  pub flags : length k.loop.pointers ≡ 8
  pub end : k.loop.end < 2 ^ 32
  pub room : (place : ℕ) → place < 8 → is_pointer k.loop place ≡ true
      → HasRoom k.params k.loop place
  pub apart : (place : ℕ) → place < 8 → is_pointer k.loop place ≡ true → place + 10 ≢ k.loop.length

-- In the certificate are the blocks of its loop and of its return, and none of them begins
-- where a run ends.
pub record IsCertified (certificate : CertificateView) (k : Round) : Type 0 where
  pub loop_at : block_at k.start certificate.blocks
      ≡ Some (block k.start (budget 1 k.words k.loop.count) (loop_facts k.params k.loop))
  pub end_at : block_at (k.start + 4 * k.words) certificate.blocks
      ≡ Some (block (k.start + 4 * k.words) (budget 1 0 0) (facts_by (λ place. None)))
  pub start_other : k.start ≢ exit
  pub end_other : k.start + 4 * k.words ≢ exit

-- ---- numbers

-- Two loops are the same, but for their pointers.
pub record AreAlike (of loop : Loop) : Type 0 where
  pub count : of.count ≡ loop.count
  pub most : of.most ≡ loop.most
  pub length : of.length ≡ loop.length
  pub vtype : of.vtype ≡ loop.vtype
  pub sew : of.sew ≡ loop.sew
  pub end : of.end ≡ loop.end

-- The loop so far is the whole one, but for pointers that are still to come.
pub record IsPartOf (of loop : Loop) : Type 0 where
  pub flags : length of.pointers ≡ length loop.pointers
  pub alike : AreAlike of loop
  pub pointers : (place : ℕ) → place < 8 → is_pointer of place ≡ true → is_pointer loop place ≡ true

abbrev pub LeadsTo : Reading → Loop → Type 0
LeadsTo (Works of) loop = IsPartOf of loop
LeadsTo (Moves of step left) loop = of ≡ loop
LeadsTo (Back of) loop = of ≡ loop
LeadsTo (Through of) loop = of ≡ loop

-- The most that is done in one round.
abbrev pub done_of : Round → ℕ
done_of k = min k.loop.most k.limit

abbrev pub atom_of : Loop → ℕ
atom_of loop = loop.count + 23

-- The atoms of vl and of what is left then are 41 and 42; x0 and ra are what they were.
pub record HasAtoms (k : Round) (s : NumbersView) : Type 0 where
  pub loop : IsLoop (table_of s) k.loop.count (atom_of k.loop) 41 42 k.least k.loop.most k.limit
  pub forms : length s.forms ≡ 33
  pub ranges : length s.ranges ≡ 33
  pub zero : value_at s 0 ≡ known (number_form 0) 0 0
  pub ra : (value_at s 1).range ≡ just exit

-- A pointer is where it was when the round began.
abbrev pub IsThere : Round → NumbersView → ℕ → Type 0
IsThere k s place =
    let base = base_of k.params place in
    value_at s (place + 10)
    ≡ known (pointer_form base (size_of k.loop) k.loop.count (atom_of k.loop)) base
    (base + bytes_of k.loop - size_of k.loop)

-- A pointer was moved on.
pub record IsMoved (k : Round) (s : NumbersView) (place : ℕ) : Type 0 where
  pub form : (value_at s (place + 10)).form
      ≡ moved_form (base_of k.params place) (size_of k.loop) k.loop.count (atom_of k.loop) 41
  pub low : base_of k.params place ≤ (value_at s (place + 10)).range.lo
  pub high : (value_at s (place + 10)).range.hi ≤ base_of k.params place + bytes_of k.loop

-- The count is still whole, and its register's and vl's numbers are what is done.
pub record IsWhole (k : Round) (s : NumbersView) : Type 0 where
  pub count : value_at s k.loop.count ≡ known (atom_form k.loop.count) 1 k.loop.most
  pub length : value_at s k.loop.length ≡ known (atom_form 41) 1 (done_of k)

-- Elements are worked on.
pub record InWorks (k : Round) (s : NumbersView) : Type 0 where
  pub atoms : HasAtoms k s
  pub whole : IsWhole k s
  pub vl : value_at s 32 ≡ known (atom_form 41) 1 (done_of k)
  pub pointers : (place : ℕ) → place < 8 → is_pointer k.loop place ≡ true → IsThere k s place

-- The step by which pointers are moved is the bytes of what is done.
pub record IsStepOf (k : Round) (step : ℕ) (s : NumbersView) : Type 0 where
  pub form : (value_at s step).form ≡ record { constant = 0; terms = term 41 (size_of k.loop) ∷ [] }
  pub least : size_of k.loop ≤ (value_at s step).range.lo
  pub filled : (value_at s step).range.lo ≤ (value_at s step).range.hi
  pub most : (value_at s step).range.hi ≤ size_of k.loop * done_of k

-- Pointers are moved by a step: those that are left have not been.
pub record InMoves (k : Round) (step : ℕ) (left : List Bool) (s : NumbersView) : Type 0 where
  pub atoms : HasAtoms k s
  pub whole : IsWhole k s
  pub step_is : IsStepOf k step s
  pub apart : (place : ℕ) → place < 8 → is_pointer k.loop place ≡ true → place + 10 ≢ step
  pub unmoved : (place : ℕ) → place < 8 → is_flagged (place + 10) left ≡ true
      → (is_pointer k.loop place ≡ true) × IsThere k s place
  pub moved : (place : ℕ) → place < 8 → is_pointer k.loop place ≡ true
      → is_flagged (place + 10) left ≡ false
      → IsMoved k s place

-- All is done, and the count is what is left.
pub record InBack (k : Round) (s : NumbersView) : Type 0 where
  pub atoms : HasAtoms k s
  pub count : value_at s k.loop.count ≡ known (left_form k.loop.count 41) 0 (k.loop.most - k.limit)
  pub moved : (place : ℕ) → place < 8 → is_pointer k.loop place ≡ true → IsMoved k s place

-- ---- the state

-- Besides the numbers: what was taken of the budget, the memory and vtype.
pub record IsWithin (k : Round) (pc : ℕ) (a : AbstractView) : Type 0 where
  pub zones : a.zones ≡ zones_of k.image k.params
  pub vtype : a.vtype ≡ Some k.loop.vtype
  pub budget : a.budget ≡ Some (budget 1 k.words k.loop.count)
  pub paid : a.paid ≡ known (atom_form k.loop.count) 1 k.loop.most
  pub second_paid : a.second_paid ≡ known (number_form 0) 0 0
  pub words : pc ≡ k.start + 4 * a.words

abbrev pub NumbersAre : Round → Reading → NumbersView → Type 0
NumbersAre k (Works of) s = InWorks k s
NumbersAre k (Moves of step left) s = InMoves k step left s
NumbersAre k (Back of) s = InBack k s
NumbersAre k (Through of) s = InBack k s

-- What is known before a word of the loop, where the reading stands there.
abbrev pub Known : Round → Reading → ℕ → AbstractView → Type 0
Known k r pc a = IsWithin k pc a × NumbersAre k r a.numbers
