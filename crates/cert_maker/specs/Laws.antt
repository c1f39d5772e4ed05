-- Why the certificate of a loop passes.
use Rattle.std.specs.Prelude.{ℕ, ◌≡◌, ◌<◌, ◌≤◌, ◌+◌, Bool, true, false, ◌*◌, ◌/◌, Some, Ok, List, Option, IfSome, None}
use Rattle.std.specs.List.{slice_get, list_all}
use Rattle.scalar_core.specs.Hart.{exit}
use Rattle.cert_note.specs.declared.values.RegisterFact.{RegisterFact}
use Rattle.abs_domain.specs.Starts.{fact_for}
use Rattle.cert_maker.specs.Certificates.{fact, facts_by, block, budget, certificate_of}
use Rattle.region_mem.specs.declared.faults.Right.{Right}
use Rattle.region_mem.specs.declared.parameter.Mode.{Mode}
use Rattle.region_mem.specs.declared.parameter.Param.{Param}
use Rattle.region_mem.specs.declared.parameter.Param.TheVariants as parameter
use Rattle.region_mem.specs.Parameter.{address_of}
use Rattle.elf_image.specs.Image.{ImageView, IsImage}
use Rattle.abs_domain.specs.Zones.{zones_of, is_inside, zone_right, may_write}
use Rattle.abs_state.specs.State.{AbstractView}
use Rattle.abs_state.specs.After.{after_of, next_word}
use Rattle.abs_state.specs.declared.state.Way.TheVariants.{To}
use Rattle.vreg_groups.specs.Legality.{is_legal}
use Rattle.std.specs.Prelude.{◌≢◌, length}
use Rattle.linear_facts.specs.declared.ranges.Range.{Range}
use Rattle.linear_facts.specs.declared.ranges.Atom.{Atom}
use Rattle.linear_facts.specs.Ranges.{range_at, split_at}
use Rattle.abs_transfer.specs.Vset.{split_into, limited, with_length_in}
use Rattle.std.specs.Prelude.{◌-◌, ◌^◌, ◌∷◌, [], slice_index_or, min}
use Rattle.linear_facts.specs.Forms.{Linear, atom_form, form_at, substituted}
use Rattle.linear_facts.specs.Sums.{range_of_form}
use Rattle.rv_decode.specs.declared.instructions.RegisterOp.TheVariants.{Add}
use Rattle.abs_domain.specs.Values.{just}
use Rattle.abs_domain.specs.Effects.{register_effect}
use Rattle.abs_domain.specs.Numbers.{NumbersView, table_of, table_with, value_at, with_result, with_value}
use Rattle.abs_state.specs.Branches.{EdgeView}
use Rattle.abs_state.specs.Edges.{is_interval_shown, is_equality_shown}
use Rattle.linear_facts.specs.LoopForms.{term, IsSize, pointer_form, moved_form, left_form, IsLoop}
use Rattle.cert_maker.specs.Certificates.{sum, term as cert_term}
use Rattle.cert_maker.specs.Words.{Insn, Vlen}
use Rattle.abs_state.specs.StepLaws.{jumps}
use Rattle.block_checker.specs.Passes.{edges_pass, block_passes, checked}
use Rattle.cert_note.specs.Certificate.{CertificateView}
use Rattle.cert_maker.specs.Loops.{is_arithmetic, is_through, is_return, insn_at, next_of, loop_from, loop_of}
use Rattle.cert_maker.specs.declared.loops.Loop.{Loop}
use Rattle.cert_maker.specs.declared.loops.Reading.{Reading}
use Rattle.cert_maker.specs.declared.loops.Reading.TheVariants.{Through}
use Rattle.cert_maker.specs.Make.{AreParameters}
use Rattle.cert_maker.specs.Known.{LeadsTo, Round, IsRound, IsCertified, Known}
use Rattle.rv_decode.specs.Encodings.{FieldsFit}

-- What is known after a word that says nothing of registers: but for facts on elements it is
-- what was known.
pub record Keeps (pc : ℕ) (a b : AbstractView) : Type 0 where
  pub vlenb : b.vlenb ≡ a.vlenb
  pub numbers : b.numbers ≡ a.numbers
  pub zones : b.zones ≡ a.zones
  pub vtype : b.vtype ≡ a.vtype
  pub budget : b.budget ≡ a.budget
  pub paid : b.paid ≡ a.paid
  pub second_paid : b.second_paid ≡ a.second_paid
  pub words : b.words ≡ a.words + 1
  pub way : b.way ≡ To (next_word pc)

abbrev pub Goes : ℕ → Insn → AbstractView → Type 0
Goes pc insn a = (b : AbstractView) × (after_of pc insn a ≡ Ok b) × Keeps pc a b

-- Arithmetic that is legal at the vtype that is known.
abbrev pub BodyKeeps : Type 0
BodyKeeps = (pc bits : ℕ) (insn : Insn) (a : AbstractView) → is_arithmetic insn ≡ true
    → a.vtype ≡ Some bits
    → is_legal record { vtype = bits; vl = 0 } insn ≡ true → Goes pc insn a

-- A buffer's bytes lie in its zone.
abbrev pub ReachesEnd : Type 0
ReachesEnd =
    (image : ImageView) (params : List Param) (right : Right) (place base end size : ℕ)
    (access : Mode)
    → slice_get params place ≡ Some (parameter.Buffer access size)
    → address_of place params ≡ Some base → end ≤ base + size
    → zone_right right
    record { first = base; end = base + size; read = true; write = may_write access } ≡ true
    → is_inside right base end (zones_of image params) ≡ true

-- a fact at a place is one on the argument register there
abbrev pub FactsByPlace : (ℕ → Option RegisterFact) → Type 0
FactsByPlace stated = (place : ℕ) → IfSome (stated place) (λ f. f.number ≡ place + 10)

-- what is found among the facts of a block, and when all of them have a property
pub record AreFacts (stated : ℕ → Option RegisterFact) : Type 0 where
  pub ra : fact_for (facts_by stated) 1 ≡ Some (fact 1 exit exit None)
  pub place : (place : ℕ) → place < 8 → fact_for (facts_by stated) (place + 10) ≡ stated place
  pub all : (p : RegisterFact → Bool) → p (fact 1 exit exit None) ≡ true
      → ((place : ℕ) → place < 8 → IfSome (stated place) (λ f. p f ≡ true))
      → list_all p (facts_by stated) ≡ true

abbrev pub FactsAre : Type 0
FactsAre = (stated : ℕ → Option RegisterFact) → FactsByPlace stated → AreFacts stated

-- the atoms where atom n was split into two new ones
pub record AreSplit (atoms : List Atom) (n : ℕ) (r t : Range) : Type 0 where
  pub n_range : range_at (table_with (split_into n r t atoms)) n ≡ range_at (table_with atoms) n
  pub n_split : split_at (table_with (split_into n r t atoms)) n
      ≡ Some record { first = length atoms; second = length atoms + 1 }
  pub first_range : range_at (table_with (split_into n r t atoms)) (length atoms) ≡ r
  pub first_split : split_at (table_with (split_into n r t atoms)) (length atoms) ≡ None
  pub second_range : range_at (table_with (split_into n r t atoms)) (length atoms + 1) ≡ t
  pub other_range : (a : ℕ) → a ≢ n → a < length atoms
      → range_at (table_with (split_into n r t atoms)) a ≡ range_at (table_with atoms) a
  pub other_split : (a : ℕ) → a ≢ n → a < length atoms
      → split_at (table_with (split_into n r t atoms)) a ≡ split_at (table_with atoms) a

abbrev pub SplitsAre : Type 0
SplitsAre = (atoms : List Atom) (n : ℕ) (r t : Range) → n < length atoms → AreSplit atoms n r t

-- ---- the walk of a checker through the loop

-- Where a word is read and the reading goes on, on the way to a loop, what is known goes on with
-- it, past a word that is no jump.
abbrev pub WordsGoOn : List Param → ℕ → Loop → (Reading → ℕ → AbstractView → Type 0) → Type 0
WordsGoOn params start loop Known =
    (pc : ℕ) (r next : Reading) (insn : Insn) (a : AbstractView) → FieldsFit insn
    → next_of params start pc r insn ≡ Some next → is_through next ≡ false → LeadsTo r loop
    → LeadsTo next loop
    → Known r pc a
    → (b : AbstractView) × (after_of pc insn a ≡ Ok b) × (jumps insn ≡ false)
    × Known next (pc + 4) b

-- Where the loop is read through, its edges pass.
abbrev pub WordsEnd : CertificateView → List Param → ℕ → Loop → ℕ
    → (Reading → ℕ → AbstractView → Type 0) → Type 0
WordsEnd certificate params start loop words Known =
    (pc : ℕ) (r : Reading) (insn : Insn) (a : AbstractView) → FieldsFit insn
    → next_of params start pc r insn ≡ Some (Through loop) → words ≡ (pc - start) / 4 + 1
    → LeadsTo r loop → Known r pc a
    → (b : AbstractView) × (after_of pc insn a ≡ Ok b) × (jumps insn ≡ true)
    × (edges_pass certificate pc insn b ≡ Ok tt)

-- In a round of a loop that was read through what is known goes on.
abbrev pub LoopsGoOn : Type 0
LoopsGoOn = (k : Round) → IsRound k → WordsGoOn k.params k.start k.loop (Known k)

-- Where a certificate has the loop's block and that of its return, the edges at the
-- round's end pass.
abbrev pub RoundsEnd : Type 0
RoundsEnd = (certificate : CertificateView) (k : Round) → IsRound k → IsCertified certificate k
    → WordsEnd certificate k.params k.start k.loop k.words (Known k)

-- A loop that is read through ends behind each of its words.
abbrev pub LoopsEnd : Type 0
LoopsEnd =
    (image : ImageView) (params : List Param) (start more pc : ℕ) (r : Reading) (through : Loop × ℕ)
    → start ≤ pc
    → loop_from image params start more pc r ≡ Ok through → pc < start + 4 * through.1

-- Each reading on the way to a loop is of that loop, but for pointers that are still to come.
abbrev pub LoopsLead : Type 0
LoopsLead =
    (image : ImageView) (params : List Param) (start more pc : ℕ) (r : Reading) (through : Loop × ℕ)
    → loop_from image params start more pc r ≡ Ok through → LeadsTo r through.0

-- ---- a pointer

-- What is known of a pointer and of the atoms before it is moved: `q` is the least that the
-- moved form may be.
pub record IsPointer (s : NumbersView) (base w n e v N m q p : ℕ) : Type 0 where
  pub register : 0 < p
  pub first : n < e
  pub second : e < v
  pub form : (value_at s p).form ≡ pointer_form base w n e
  pub range : (value_at s p).range ≡ record { lo = base; hi = base + w * N - w }
  pub moved : range_of_form (table_of s) (moved_form base w n e v)
      ≡ Some record { lo = q; hi = base + w * N }
  pub low : q ≤ base + w * N
  pub some : w ≤ w * N
  pub most : w * m ≤ w * N
  pub fits : base + w * N + w * N < 2 ^ 32

-- What is known of the step: the bytes of the elements that were worked on.
pub record IsStep (s : NumbersView) (w v m step lo hi : ℕ) : Type 0 where
  pub form : (value_at s step).form ≡ record { constant = 0; terms = term v w ∷ [] }
  pub range : (value_at s step).range ≡ record { lo = lo; hi = hi }
  pub least : w ≤ lo
  pub filled : lo ≤ hi
  pub most : hi ≤ w * m

pub record Moved (s : NumbersView) (base w n e v N p step : ℕ) : Type 0 where
  pub range : Range
  pub is : with_result p (register_effect Add (value_at s p) (value_at s step)) s
      ≡ with_value p record { form = moved_form base w n e v; range = range } s
  pub low : base ≤ range.lo
  pub high : range.hi ≤ base + w * N

abbrev pub PointersMove : Type 0
PointersMove = (s : NumbersView) (base w n e v N m q p step lo hi : ℕ)
    → IsPointer s base w n e v N m q p → IsStep s w v m step lo hi
    → Moved s base w n e v N p step

-- On an edge where a pointer has its moved form and the count is what is left, the loop's fact on
-- the pointer is shown.
abbrev pub PointersReturn : Type 0
PointersReturn = (edge : EdgeView) (base w n e v N p : ℕ) → IsSize w → base < 2 ^ 32 → n < e → e < v
    → (value_at edge.state.numbers p).form ≡ moved_form base w n e v
    → form_at edge.state.numbers.forms n ≡ left_form n v
    → form_at edge.state.numbers.forms e ≡ atom_form e
    → base ≤ (slice_index_or edge.ranges p (just 0)).lo
    → (slice_index_or edge.ranges p (just 0)).hi ≤ base + w * N
    → let f = fact p base (base + w * N)
    (sum base (cert_term n (2 ^ 32 - w) ∷ cert_term e w ∷ [])) in
    (is_interval_shown edge f ≡ true) × (is_equality_shown edge f ≡ true)

-- ---- the length

-- What is known of the count n where the loop begins, and of its number e at entry.
pub record IsCount (s : NumbersView) (n t e L N M : ℕ) : Type 0 where
  pub count : value_at s n ≡ record { form = atom_form n; range = record { lo = 1; hi = N } }
  pub first : n < e
  pub second : e < length s.atoms
  pub n_range : range_at (table_of s) n ≡ record { lo = 1; hi = N }
  pub e_range : range_at (table_of s) e ≡ record { lo = L; hi = N }
  pub e_split : split_at (table_of s) e ≡ None
  pub forms : length s.forms ≡ 33
  pub ranges : length s.ranges ≡ 33
  pub positive : 0 < t
  pub below : t < 32
  pub some : 1 ≤ N
  pub least : L ≤ N
  pub progress : 1 ≤ M

-- Behind the word that sets vl: vl and its register are a new atom. The count is made of it. All
-- else stays.
pub record IsSet (s new : NumbersView) (n t e L N M : ℕ) : Type 0 where
  pub forms : length new.forms ≡ 33
  pub ranges : length new.ranges ≡ 33
  pub loop : IsLoop (table_of new) n e (length s.atoms) (length s.atoms + 1) L N M
  pub vl : value_at new 32
      ≡ record { form = atom_form (length s.atoms); range = record { lo = min 1 M; hi = min N M } }
  pub length : value_at new t
      ≡ record { form = atom_form (length s.atoms); range = record { lo = min 1 M; hi = min N M } }
  pub others : (i : ℕ) → i ≢ 32 → i ≢ t → value_at new i ≡ value_at s i

abbrev pub LengthsAreSet : Type 0
LengthsAreSet = (s : NumbersView) (n t e L N M : ℕ) → IsCount s n t e L N M
    → IsSet s (with_length_in t (limited M (value_at s n) s)) n t e L N M

-- Where a round ends the loop's equality on a pointer is its moved form.
abbrev pub BackEquality : Type 0
BackEquality = (forms : List Linear) (base w n e v : ℕ) → IsSize w → base < 2 ^ 32 → n < e → e < v
    → form_at forms n ≡ left_form n v → form_at forms e ≡ atom_form e
    → substituted forms (pointer_form base w n e) ≡ moved_form base w n e v

-- ---- the return

-- The block of a return passes, whatever the others are: ra is EXIT there.
abbrev pub ReturnsPass : Type 0
ReturnsPass = (image : ImageView) (certificate : CertificateView) (start : ℕ) (insn : Insn)
    → insn_at start image ≡ Some insn
    → is_return insn ≡ true
    → block_passes image certificate (block start (budget 1 0 0) (facts_by (λ place. None))) ≡ Ok tt

-- ---- all of it

-- What is made of a loop passes the check, at the length of vector registers that it is made for.
abbrev pub CertificatesPass : Type 0
CertificatesPass = (image : ImageView) (params : List Param) (vlen : Vlen) (through : Loop × ℕ)
    → IsImage image → AreParameters params → loop_of image params ≡ Ok through
    → checked image (certificate_of image params vlen through.0 through.1) vlen ≡ Ok tt
