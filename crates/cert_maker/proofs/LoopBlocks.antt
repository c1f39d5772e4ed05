-- The block of a loop passes.
use Rattle.std.proofs.Common.{◌≡◌, ◌≢◌, ℕ, ◌+◌, ◌*◌, ◌<◌, ◌≤◌, refl, sym, ap, ◌∙◌, subst, arith, Some, None, List, length, min}
use Rattle.std.specs.Prelude.{Ok}
use Rattle.std.proofs.lemmas.Bool.{ne_eqb}
use Rattle.linear_facts.specs.Forms.{atom_form}
use Rattle.linear_facts.specs.LoopForms.{IsLoop}
use Rattle.rv_decode.specs.declared.instructions.Insn.TheVariants.{VSet}
use Rattle.rv_decode.specs.declared.instructions.VSet.TheVariants.{Vsetvli}
use Rattle.rv_decode.specs.Encodings.{MeaningsFit}
use Rattle.vreg_groups.specs.VectorLength.{vlenb_of}
use Rattle.vreg_groups.specs.VectorType.{vtype_of, vlmax_of}
use Rattle.vreg_groups.specs.declared.vector_length.Vlen.{Vlen}
use Rattle.vreg_groups.specs.declared.vector_type.Vtype.{Vtype}
use Rattle.cert_note.specs.Certificate.{CertificateView}
use Rattle.cert_note.specs.declared.values.Block.{Block}
use Rattle.abs_domain.specs.Values.{ValueView}
use Rattle.abs_domain.specs.Numbers.{NumbersView, table_of, value_at}
use Rattle.abs_transfer.specs.Vset.{configured, known_request, limited, supported_request, wanted_of, with_length_in}
use Rattle.abs_state.specs.State.{AbstractView}
use Rattle.abs_state.specs.StepLaws.{jumps}
use Rattle.abs_state.specs.After.{after_of, vset_after}
use Rattle.abs_state.specs.Blocks.{at_block_of}
use Rattle.block_checker.specs.Passes.{block_at, block_passes, then_on, walk}
use Rattle.cert_maker.specs.declared.loops.Loop.{Loop}
use Rattle.cert_maker.specs.declared.loops.Reading.TheVariants.{Works}
use Rattle.cert_maker.specs.Loops.{insn_at, loop_from}
use Rattle.cert_maker.specs.Certificates.{block, budget, loop_facts}
use Rattle.cert_maker.specs.Known.{Round, IsRound, IsCertified, HasAtoms, InWorks, IsWithin, Known, known, atom_of, done_of}
use Rattle.cert_maker.specs.Laws.{IsSet}
use Rattle.cert_maker.proofs.Closing.{rounds-end}
use Rattle.cert_maker.proofs.IsCertificateLemmas.{view_of}
use Rattle.cert_maker.proofs.Leading.{next_leads}
use Rattle.cert_maker.proofs.LoopBeginnings.{atoms_begin, count_begins, count_is, loop_start, pointer_begins, ra_begins, zero_begins}
use Rattle.cert_maker.proofs.LoopWalks.{goes_on, walks, word_is}
use Rattle.cert_maker.proofs.Starts.{lengths-are_set}
use Rattle.cert_maker.proofs.Working.{words-go_on}

-- ---- the word that sets vl

-- behind vsetvli of a supported type
pub record IsSetBy (rd rs1 bits : ℕ) (t : Vtype) (a b : AbstractView) : Type 0 where
  pub numbers : b.numbers ≡ with_length_in rd (limited (vlmax_of a.vlenb t) (value_at a.numbers rs1) a.numbers)
  pub zones : b.zones ≡ a.zones
  pub vtype : b.vtype ≡ Some bits
  pub budget : b.budget ≡ a.budget
  pub paid : b.paid ≡ a.paid
  pub second_paid : b.second_paid ≡ a.second_paid
  pub words : b.words ≡ a.words + 1

set_by : (pc rd rs1 bits : ℕ) (t : Vtype) (a : AbstractView) → rs1 ≢ 0 → vtype_of bits ≡ Some t
    → IsSetBy rd rs1 bits t a (vset_after pc (Vsetvli rd rs1 bits) a)
unfolding vset_after wanted_of configured known_request supported_request
set_by pc rd rs1 bits t a ne is = record {
  numbers = rw (ne_eqb rs1 0 ne, is) refl;
  zones = refl;
  vtype = rw (ne_eqb rs1 0 ne, is) refl;
  budget = refl;
  paid = refl;
  second_paid = refl;
  words = refl;
}

set_is : (pc rd rs1 bits : ℕ) (a : AbstractView) → after_of pc (VSet (Vsetvli rd rs1 bits)) a ≡ Ok (vset_after pc (Vsetvli rd rs1 bits) a)
unfolding after_of
set_is pc rd rs1 bits a = refl

-- ---- what is known behind it

least_one : (M : ℕ) → 1 ≤ M → min 1 M ≡ 1
least_one M l = omega (arith, l)

module _ (k : Round) (is : IsRound k) where
  abbrev n : ℕ
  n = k.loop.count

  abbrev start_set : NumbersView
  start_set = with_length_in k.loop.length (limited k.limit (value_at (loop_start k is) n) (loop_start k is))

  is_set : IsSet (loop_start k is) start_set n k.loop.length (atom_of k.loop) k.least k.loop.most k.limit
  is_set = lengths-are_set (loop_start k is) n k.loop.length (atom_of k.loop) k.least k.loop.most k.limit (count_is k is)

  vl_is : known (atom_form (length (loop_start k is).atoms)) (min 1 k.limit) (min k.loop.most k.limit) ≡ known (atom_form 41) 1 (done_of k)
  vl_is = rw (atoms_begin k is, least_one k.limit is.progress) refl

  loop_is : IsLoop (table_of start_set) n (atom_of k.loop) 41 42 k.least k.loop.most k.limit
  loop_is =
      subst (λ (v : ℕ). IsLoop (table_of start_set) n (atom_of k.loop) v (v + 1) k.least k.loop.most k.limit) (atoms_begin k is) is_set.loop

  has_atoms : HasAtoms k start_set
  has_atoms = record {
    loop = loop_is;
    forms = is_set.forms;
    ranges = is_set.ranges;
    zero = is_set.others 0 (λ e. omega (arith, e)) (λ e. (let low = is.length_low in omega (arith, e, low))) ∙ zero_begins k is;
    ra =
        ap (λ (v : ValueView). v.range) (is_set.others 1 (λ e. omega (arith, e)) (λ e. (let low = is.length_low in omega (arith, e, low))))
        ∙ ra_begins k is;
  }

  in_works : InWorks k start_set
  in_works = record {
    atoms = has_atoms;
    whole = record {
      count = is_set.others n (λ e. (let high = is.count_high in omega (arith, e, high))) (λ e. is.length_other (sym e)) ∙ count_begins k is;
      length = is_set.length ∙ vl_is;
    };
    vl = is_set.vl ∙ vl_is;
    pointers = λ place l p. is_set.others (place + 10) (λ e. omega (arith, e, l)) (is.apart place l p) ∙ pointer_begins k is place l p;
  }

  -- ---- the block

  module _ (vlen : Vlen) (t : Vtype) (type_is : vtype_of k.loop.vtype ≡ Some t) (limit_is : k.limit ≡ vlmax_of (vlenb_of vlen) t)
      (blocks : List Block) where
    abbrev certificate : CertificateView
    certificate = view_of vlen k.params blocks

    abbrev loop_block : Block
    loop_block = block k.start (budget 1 k.words n) (loop_facts k.params k.loop)

    abbrev begin : AbstractView
    begin = at_block_of k.image certificate loop_block

    abbrev set : AbstractView
    set = vset_after k.start (Vsetvli k.loop.length n k.loop.vtype) begin

    begin_numbers : begin.numbers ≡ loop_start k is
    unfolding at_block_of
    begin_numbers = refl

    begin_vlenb : begin.vlenb ≡ vlenb_of vlen
    unfolding at_block_of
    begin_vlenb = refl

    set_there : IsSetBy k.loop.length n k.loop.vtype t begin set
    set_there = set_by k.start k.loop.length n k.loop.vtype t begin (λ e. (let low = is.count_low in omega (arith, e, low))) type_is

    set_numbers : set.numbers ≡ start_set
    set_numbers = set_there.numbers ∙ (rw (begin_numbers, begin_vlenb, sym limit_is) refl)

    begin_paid : begin.paid ≡ value_at (loop_start k is) n
    unfolding at_block_of
    begin_paid = refl

    begin_second : begin.second_paid ≡ value_at (loop_start k is) 0
    unfolding at_block_of
    begin_second = refl

    begin_is : IsWithin k (k.start + 4) set
    unfolding at_block_of
    begin_is = record {
      zones = set_there.zones;
      vtype = set_there.vtype;
      budget = set_there.budget;
      paid = set_there.paid ∙ (begin_paid ∙ count_begins k is);
      second_paid = set_there.second_paid ∙ (begin_second ∙ zero_begins k is);
      words = (let one : set.words ≡ 0 + 1 = set_there.words in omega (arith, one));
    }

    known_there : (of : Loop) → Known k (Works of) (k.start + 4) set
    known_there of = (begin_is, subst (λ (s : NumbersView). InWorks k s) (sym set_numbers) in_works)

    abbrev more_blocks : Type 0
    more_blocks = (at : ℕ) → k.start < at → at < k.start + 4 * k.words → block_at at blocks ≡ None

    walked : MeaningsFit → (fuel : ℕ) (of : Loop) → IsCertified certificate k → loop_from k.image k.params k.start fuel (k.start + 4) (Works of) ≡ Ok (k.loop, k.words)
        → k.words ≤ 1025 → more_blocks → walk k.image certificate 4095 (k.start + 4) set ≡ Ok tt
    walked fit fuel of c read few none =
        walks fit k.image certificate k.params k.start (Known k) (k.loop, k.words) (words-go_on k is) (rounds-end certificate k is c)
        (λ at r next insn loop f g. next_leads k.params k.start at r next insn loop f g)
        fuel 4095 (k.start + 4) (Works of) set (omega arith) read (known_there of) (omega (arith, few)) (λ at l h. none at (omega (arith, l)) h)

    pub loop_passes : MeaningsFit → (fuel : ℕ) (of : Loop) → insn_at k.start k.image ≡ Some (VSet (Vsetvli k.loop.length n k.loop.vtype))
        → IsCertified certificate k → loop_from k.image k.params k.start fuel (k.start + 4) (Works of) ≡ Ok (k.loop, k.words)
        → 2 ≤ k.words → k.words ≤ 1025 → more_blocks → block_passes k.image certificate loop_block ≡ Ok tt
    unfolding block_passes walk jumps
    loop_passes fit fuel of at c read some few none =
        ap (λ x. then_on x (λ next. walk k.image certificate 4095 (k.start + 4) next))
        (word_is k.image certificate k.start (VSet (Vsetvli k.loop.length n k.loop.vtype)) begin set at (set_is k.start k.loop.length n k.loop.vtype begin)
        ∙ goes_on certificate k.start (VSet (Vsetvli k.loop.length n k.loop.vtype)) set refl (none (k.start + 4) (omega arith) (omega (arith, some))))
        ∙ walked fit fuel of c read few none
