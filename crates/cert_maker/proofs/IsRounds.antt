-- A loop that is read through is a round, and all that the check needs is true of it.
use Rattle.std.proofs.Common.{◌≡◌, ◌≢◌, ℕ, ◌+◌, ◌-◌, ◌*◌, ◌^◌, ◌<◌, ◌≤◌, inl, inr, zero, suc, Bool, true, false, refl, sym, ap, ◌∙◌, subst, arith, Some, None, List, [], ◌∷◌, length}
use Rattle.std.proofs.Math.Nat.{mul_comm}
use Rattle.std.specs.Prelude.{Result, Ok, if◌then◌else◌}
use Rattle.std.specs.List.{slice_get, AllByRecursion}
use Rattle.std.proofs.lemmas.Bool.{leb-true}
use Rattle.elf_image.specs.Image.{ImageView, IsImage}
use Rattle.linear_facts.specs.LoopForms.{IsSize}
use Rattle.rv_decode.specs.Encodings.{FieldsFit, MeaningsFit}
use Rattle.rv_decode.specs.declared.instructions.Insn.{Insn}
use Rattle.rv_decode.specs.declared.instructions.Width.{Width}
use Rattle.rv_decode.specs.declared.instructions.Width.TheVariants.{W8, W16, W32}
use Rattle.region_mem.specs.Parameter.{is_valid}
use Rattle.region_mem.specs.declared.parameter.Param.{Param}
use Rattle.region_mem.specs.declared.parameter.Param.TheVariants as parameter
use Rattle.scalar_core.specs.Step.{offset_by}
use Rattle.vreg_groups.specs.VectorLength.{IsVlenb, vlenb_of}
use Rattle.rv_decode.specs.Instructions.{bytes_of_width}
use Rattle.vreg_groups.specs.VectorType.{vlmax_of}
use Rattle.vreg_groups.specs.declared.vector_length.Vlen.{Vlen}
use Rattle.vreg_groups.specs.declared.vector_length.Vlen.TheVariants.{V128, V256, V512}
use Rattle.vreg_groups.specs.declared.vector_type.Vtype.{Vtype}
use Rattle.cert_note.specs.Certificate.{FitsWords}
use Rattle.cert_maker.specs.declared.loops.Head.{Head}
use Rattle.cert_maker.specs.declared.loops.Loop.{Loop}
use Rattle.cert_maker.specs.declared.loops.Reading.TheVariants.{Works}
use Rattle.cert_maker.specs.Loops.{◌>>=◌, size_of, count_by, is_flagged, length_by, insn_at, is_return, read_at, return_by, loop_from, loop_of}
use Rattle.cert_maker.specs.Known.{Round, IsRound, HasRoom, is_pointer}
use Rattle.cert_maker.specs.Make.{AreParameters}
use Rattle.cert_maker.proofs.Heads.{IsBranch, IsLength, branch_is, length_is}
use Rattle.cert_maker.proofs.Readings.{followed, none_flagged, read_is, through_is}
use Rattle.cert_maker.proofs.LoopWalks.{fits_at, same_alike}
use Rattle.cert_maker.proofs.Rounds.{HasBuffer, Keeps, room_there, through_keeps, valid_at}
use Rattle.vreg_groups.specs.SizeLemmas.{vlmax_small}
use Rattle.cert_maker.proofs.Starts.{vlmax_positive}
use Rattle.cert_maker.proofs.Throughs.{IsWhole, whole_is}

-- ---- what was read

pub record IsRead (image : ImageView) (params : List Param) (through : Loop × ℕ) : Type 0 where
  pub head : Head
  pub of : Loop
  pub first : Insn
  pub second : Insn
  pub last : Insn
  pub fuel : ℕ
  pub first_at : insn_at image.entry image ≡ Some first
  pub first_is : IsBranch params image.entry first head
  pub second_at : insn_at (image.entry + 4) image ≡ Some second
  pub second_is : IsLength head second of
  pub rest : loop_from image params (image.entry + 4) fuel (image.entry + 4 + 4) (Works of) ≡ Ok through
  pub last_at : insn_at (image.entry + 4 + 4 * through.1) image ≡ Some last
  pub last_is : is_return last ≡ true

return_is : (insn last : Insn) → return_by insn ≡ Some last → is_return insn ≡ true
return_is insn last e = by_test (is_return insn) refl e
  where
    by_test : (t : Bool) → is_return insn ≡ t → (if t then Some insn else None) ≡ Some last → is_return insn ≡ true
    by_test true t f = t
    by_test false t f = absurd (cc)

pub read_all : (image : ImageView) (params : List Param) (through : Loop × ℕ) → loop_of image params ≡ Ok through → IsRead image params through
unfolding loop_of
read_all image params through e =
    let head = followed (read_at image.entry (count_by params image.entry) image) rest_of_head through e in
    let length = followed (read_at (image.entry + 4) (length_by head.0) image) rest_of_length through head.2 in
    let body = followed (loop_from image params (image.entry + 4) 0x3000_0000 (image.entry + 8) (Works length.0)) rest_of_body through length.2 in
    let last = followed (read_at (image.entry + 4 + 4 * body.0.1) return_by image) (λ _. Ok body.0) through body.2 in
    let first = read_is image.entry (count_by params image.entry) image head.0 head.1 in
    let second = read_is (image.entry + 4) (length_by head.0) image length.0 length.1 in
    let third = read_is (image.entry + 4 + 4 * body.0.1) return_by image last.0 last.1 in
    subst (λ (t : Loop × ℕ). IsRead image params t) (through_is body.0 through last.2)
    record {
      head = head.0;
      of = length.0;
      first = first.0;
      second = second.0;
      last = third.0;
      fuel = 0x3000_0000;
      first_at = first.1;
      first_is = branch_is params image.entry first.0 head.0 first.2;
      second_at = second.1;
      second_is = length_is head.0 second.0 length.0 second.2;
      rest = at_second 0x3000_0000 length.0 body.0 body.1;
      last_at = third.1;
      last_is = return_is third.0 last.0 third.2;
    }
  where
    at_second : (fuel : ℕ) (of : Loop) (t : Loop × ℕ) → loop_from image params (image.entry + 4) fuel (image.entry + 8) (Works of) ≡ Ok t
        → loop_from image params (image.entry + 4) fuel (image.entry + 4 + 4) (Works of) ≡ Ok t
    at_second fuel of t f =
        let same : image.entry + 8 ≡ image.entry + 4 + 4 = omega arith in
        subst (λ (pc : ℕ). loop_from image params (image.entry + 4) fuel pc (Works of) ≡ Ok t) same f

    rest_of_body : Loop × ℕ → Result (Loop × ℕ) ℕ
    rest_of_body t = read_at (image.entry + 4 + 4 * t.1) return_by image >>= λ _. Ok t

    rest_of_length : Loop → Result (Loop × ℕ) ℕ
    rest_of_length loop = loop_from image params (image.entry + 4) 0x3000_0000 (image.entry + 8) (Works loop) >>= rest_of_body

    rest_of_head : Head → Result (Loop × ℕ) ℕ
    rest_of_head head = read_at (image.entry + 4) (length_by head) image >>= rest_of_length

-- ---- numbers

size_is : (w : Width) → IsSize (bytes_of_width w)
size_is W8 = inl refl
size_is W16 = inr (inl refl)
size_is W32 = inr (inr refl)

pub is_vlenb : (vlen : Vlen) → IsVlenb (vlenb_of vlen)
is_vlenb V128 = inl refl
is_vlenb V256 = inr (inl refl)
is_vlenb V512 = inr (inr refl)

vlenb_few : (vlen : Vlen) → vlenb_of vlen ≤ 64
vlenb_few V128 = omega arith
vlenb_few V256 = omega arith
vlenb_few V512 = omega arith

vlmax_few : (vlen : Vlen) (t : Vtype) → vlmax_of (vlenb_of vlen) t < 2 ^ 30
vlmax_few vlen t =
    let small = vlmax_small t (vlenb_of vlen) (vlmax_of (vlenb_of vlen) t) (omega arith) in
    omega (arith, small, vlenb_few vlen)

-- what a parameter says fits its words
fits_there : (params : List Param) (place : ℕ) (p : Param) → AllByRecursion FitsWords params → slice_get params place ≡ Some p → FitsWords p
fits_there [] place p fit e = absurd (cc)
fits_there (q ∷ qs) zero p fit e = subst (λ (x : Param). FitsWords x) (same q p e) fit.0
  where
    same : (a b : Param) → Some a ≡ Some b → a ≡ b
    same a b f = cc
fits_there (q ∷ qs) (suc place) p fit e = fits_there qs place p fit.1 e

least_below : (least most : ℕ) → is_valid (parameter.Scalar least most) ≡ true → least ≤ most
unfolding is_valid
least_below least most e = leb-true least most e

-- ---- the round

-- what the branch before the loop needs of it, whether it is ever entered or not
pub record IsEntered (k : Round) : Type 0 where
  pub count_low : 10 ≤ k.loop.count
  pub count_high : k.loop.count < 18
  pub count_is : slice_get k.params (k.loop.count - 10) ≡ Some (parameter.Scalar k.least k.loop.most)
  pub size : IsSize (size_of k.loop)
  pub least : k.least ≤ k.loop.most
  pub fits : k.loop.most < 2 ^ 32
  pub room : (place : ℕ) → place < 8 → is_pointer k.loop place ≡ true → HasRoom k.params k.loop place

module _ (image : ImageView) (params : List Param) (through : Loop × ℕ) (read : IsRead image params through) where
  none_yet : (place : ℕ) → place < 8 → is_pointer read.of place ≡ true → HasBuffer params read.of place
  none_yet place l e =
      absurd (none_flagged place l (subst (λ (flags : List Bool). is_flagged (place + 10) flags ≡ true) read.second_is.pointers e))

  first_keeps : Keeps params read.of read.of
  first_keeps = record {
    flags = ap (λ (flags : List Bool). length flags) read.second_is.pointers;
    alike = same_alike read.of;
    buffers = none_yet;
  }

  pub keeps : Keeps params read.of through.0
  keeps = through_keeps params read.of image (image.entry + 4) read.fuel (image.entry + 4 + 4) read.of through first_keeps read.rest

  abbrev pub round_at : ℕ → Round
  round_at limit = record {
    image = image;
    params = params;
    start = image.entry + 4;
    words = through.1;
    least = read.first_is.least;
    limit = limit;
    loop = through.0;
  }

  pub count_same : through.0.count ≡ read.head.count
  count_same = keeps.alike.count ∙ read.second_is.count

  most_same : through.0.most ≡ read.head.most
  most_same = keeps.alike.most ∙ read.second_is.most

  pub end_is : through.0.end ≡ offset_by image.entry read.first_is.offset
  end_is = keeps.alike.end ∙ (read.second_is.end ∙ read.first_is.end)

  pub scalar_there : slice_get params (through.0.count - 10) ≡ Some (parameter.Scalar read.first_is.least through.0.most)
  scalar_there =
      subst (λ (m : ℕ). slice_get params (through.0.count - 10) ≡ Some (parameter.Scalar read.first_is.least m)) (sym most_same)
      (subst (λ (c : ℕ). slice_get params (c - 10) ≡ Some (parameter.Scalar read.first_is.least read.head.most)) (sym count_same) read.first_is.count)

  pub room_in : (place : ℕ) (b : HasBuffer params read.of place) → through.0.most * size_of through.0 ≤ b.size
  room_in place b =
      subst (λ (m : ℕ). m * size_of through.0 ≤ b.size) (sym keeps.alike.most)
      (subst (λ (w : Width). read.of.most * bytes_of_width w ≤ b.size) (sym keeps.alike.sew) b.room)

  module _ (are : AreParameters params) where
    has_room : (place : ℕ) → place < 8 → is_pointer through.0 place ≡ true → HasRoom params through.0 place
    has_room place l e =
        let buffer = keeps.buffers place l e in
        room_there params through.0 place buffer.size buffer.access are.valid are.eight l buffer.is
        (subst (λ (x : ℕ). x ≤ buffer.size) (mul_comm through.0.most (size_of through.0)) (room_in place buffer))

    pub entered : (limit : ℕ) → IsEntered (round_at limit)
    entered limit = record {
      count_low = subst (λ (c : ℕ). 10 ≤ c) (sym count_same) read.first_is.from;
      count_high = subst (λ (c : ℕ). c < 18) (sym count_same) read.first_is.to;
      count_is = scalar_there;
      size = size_is through.0.sew;
      least = least_below _ _ (valid_at params (through.0.count - 10) (parameter.Scalar read.first_is.least through.0.most) are.valid scalar_there);
      fits = fits_there params (through.0.count - 10) (parameter.Scalar read.first_is.least through.0.most) are.fit scalar_there;
      room = has_room;
    }

    length_below : MeaningsFit → read.of.length < 32
    length_below fit =
        (subst (λ (i : Insn). FieldsFit i) read.second_is.is (fits_at fit (image.entry + 4) read.second image read.second_at)).0

    apart_from : (place : ℕ) → place < 8 → is_pointer through.0 place ≡ true → place + 10 ≢ through.0.length
    apart_from place l e = λ f. (keeps.buffers place l e).apart (f ∙ keeps.alike.length)

    abbrev pub limit_of : Vlen → ℕ
    limit_of vlen = vlmax_of (vlenb_of vlen) read.second_is.vector_type

    pub is_round : MeaningsFit → (vlen : Vlen) → 1 ≤ through.0.most → IsRound (round_at (limit_of vlen))
    is_round fit vlen some =
        let first = entered (limit_of vlen) in
        record {
          count_low = first.count_low;
          count_high = first.count_high;
          count_is = first.count_is;
          length_low = subst (λ (r : ℕ). 2 ≤ r) (sym keeps.alike.length) (two_at read.of.length read.second_is.not_zero read.second_is.not_ra);
          length_high = subst (λ (r : ℕ). r < 32) (sym keeps.alike.length) (length_below fit);
          length_other = λ e. read.second_is.other (sym keeps.alike.length ∙ (e ∙ keeps.alike.count));
          size = first.size;
          some = some;
          least = first.least;
          fits = first.fits;
          progress = vlmax_positive (vlenb_of vlen) read.second_is.vector_type (is_vlenb vlen);
          short = vlmax_few vlen read.second_is.vector_type;
          flags = keeps.flags;
          end = subst (λ (x : ℕ). x < 2 ^ 32) (sym end_is) (omega arith);
          room = first.room;
          apart = apart_from;
        }
      where
        two_at : (r : ℕ) → r ≢ 0 → r ≢ 1 → 2 ≤ r
        two_at r x y = omega (arith, x, y)

    pub whole : MeaningsFit → IsImage image → IsWhole (image.entry + 4) through.0 through.1
    whole fit is = whole_is fit image params (image.entry + 4) read.fuel read.of through is read.rest
