-- The two laws of a whole certificate.
use Rattle.std.proofs.Common.{◌≡◌, ℕ, zero, suc, ◌^◌, ◌<◌, ◌≤◌, Bool, true, false, ◌||◌, cond, leb, eqb, List, [], ◌∷◌, ◌++◌, length, Option, Some, None, Result, Ok, Err, refl, sym, ap, subst, ◌∙◌, append_assoc, arith, inl, inr}
use Rattle.std.specs.Result.{result_map_both}
use Rattle.std.specs.List.{flat_map, list_all, AllByRecursion}
use Rattle.std.proofs.lemmas.Bool.{eqb-true}
use Rattle.std.proofs.lemmas.Bool.Decides.{nat_tests}
use Rattle.std.proofs.lemmas.List.{append-nil}
use Rattle.region_mem.specs.Parameter.{is_valid, parameters_of}
use Rattle.cert_note.specs.Words.{Version, Front, Param, Vlen}
use Rattle.cert_note.specs.declared.values.Version.TheVariants.{V1, V2}
use Rattle.region_mem.specs.declared.parameter.Mode.TheVariants.{Read, ReadWrite}
use Rattle.region_mem.specs.declared.parameter.Param.TheVariants as parameter
use Rattle.cert_note.specs.declared.refusals.CertError.TheVariants as error
use Rattle.cert_note.specs.declared.refusals.Fault.{Fault}
use Rattle.vreg_groups.specs.declared.vector_length.Vlen.TheVariants.{V128, V256, V512}
use Rattle.cert_note.specs.Certificate.{CertificateView, AllFrom, after_block, IsBlock, IsParameter, IsCertificate}
use Rattle.elf_image.specs.Words.{half, word}
use Rattle.cert_note.specs.Spelling.{version_code, vlen_code, header, parameter_of, spelled_parameter, spelled_block, spelling}
use Rattle.cert_note.specs.Reading.{byte_at, number_at, zero_at, zeros_at, version_of, vlen_of, header_at, is_mode, is_first_number, is_second_number, param_of, parameter_at, parameters_at, block_at, blocks_at, count_at, front_at, blocks_behind, nothing_at, reading_of, certificate_of, parameter_from, after_parameter, ◌>>=◌}
use Rattle.elf_image.specs.Words.{AreBytes}
pub use Rattle.cert_note.specs.ParameterLemmas.{valid_all}
use Rattle.cert_note.proofs.Numbers.{bind_ok, after, expected, meeting, found, ok_is, Takes, Takes-then, byte_takes, byte_again, half_takes, half_again, word_takes, word_again, zero_takes, zero_again, zeros_takes, zeros_again, many_takes, many_again}
use Rattle.cert_note.proofs.Laws.{chosen, some_is, block_takes, block_again, regroup3, regroup4}

-- ---- the header

-- the number of a value that was found as one of several
one_of : {A : Type 0} (spelled : A → ℕ) (code n : ℕ) (x : A) (others : Option A) (y : A) → n ≡ spelled x → (others ≡ Some y → code ≡ spelled y) → cond (eqb code n) (Some x) others ≡ Some y → code ≡ spelled y
one_of spelled code n x others y is other e =
    elim (chosen (eqb code n) (Some x) others (Some y) e) [
      | inl h ↦ eqb-true code n h.0 ∙ is ∙ ap spelled (some_is x y h.1)
      | inr h ↦ other h.1
    ]

vlen_is : (code : ℕ) (vlen : Vlen) → vlen_of code ≡ Some vlen → code ≡ vlen_code vlen
unfolding vlen_of
vlen_is code vlen e =
    one_of vlen_code code 1 V128 _ vlen refl (one_of vlen_code code 2 V256 _ vlen refl (one_of vlen_code code 3 V512 None vlen refl (λ f. absurd (cc f)))) e

vlen_back : (vlen : Vlen) → vlen_of (vlen_code vlen) ≡ Some vlen
unfolding vlen_of
vlen_back V128 = refl
vlen_back V256 = refl
vlen_back V512 = refl

version_is : (code : ℕ) (version : Version) → version_of code ≡ Some version → code ≡ version_code version
unfolding version_of
version_is code version e = one_of version_code code 1 V1 _ version refl (one_of version_code code 2 V2 None version refl (λ f. absurd (cc f))) e

version_back : (version : Version) → version_of (version_code version) ≡ Some version
unfolding version_of
version_back V1 = refl
version_back V2 = refl

version_small : (version : Version) → version_code version < 2 ^ 16
version_small V1 = omega arith
version_small V2 = omega arith

header_takes : (bytes : List ℕ) (x : Version × Vlen) (rest : List ℕ) → AreBytes bytes → header_at bytes ≡ Ok (x, rest) → Takes bytes (header x.0 x.1) rest
unfolding header_at header
header_takes bytes x rest fits e =
    let a = bind_ok (number_at _ bytes) _ (x, rest) e in
    let p = found (version_of a.0.0) _ _ (x, rest) a.2 in
    let b = bind_ok (byte_at a.0.1) _ (x, rest) p.2 in
    let c = found (vlen_of b.0.0) _ _ (x, rest) b.2 in
    let d = bind_ok (zero_at error.Version b.0.1) _ (x, rest) c.2 in
    let t0 = half_takes bytes a.0.0 a.0.1 fits a.1 in
    let t1 = byte_takes a.0.1 b.0.0 b.0.1 t0.0.rest_fits b.1 in
    let t2 = zero_takes error.Version b.0.1 d.0 t1.0.rest_fits d.1 in
    let e1 = Takes-then a.0.1 (b.0.0 ∷ []) b.0.1 (0 ∷ []) d.0 t1.0 t2 in
    let e2 = Takes-then bytes (half a.0.0) a.0.1 (b.0.0 ∷ 0 ∷ []) d.0 t0.0 e1 in
    let whole : Takes bytes (half (version_code p.0) ++ (vlen_code c.0 ∷ 0 ∷ [])) d.0 =
    subst (λ (n : ℕ). Takes bytes (half (version_code p.0) ++ (n ∷ 0 ∷ [])) d.0) (vlen_is b.0.0 c.0 c.1) (subst (λ (n : ℕ). Takes bytes (half n ++ (b.0.0 ∷ 0 ∷ [])) d.0) (version_is a.0.0 p.0 p.1) e2) in
    subst (λ (y : (Version × Vlen) × List ℕ). Takes bytes (half (version_code y.0.0) ++ (vlen_code y.0.1 ∷ 0 ∷ [])) y.1) (ok_is ((p.0, c.0), d.0) (x, rest) d.2) whole

header_again : (version : Version) (vlen : Vlen) (rest : List ℕ) → header_at (header version vlen ++ rest) ≡ Ok ((version, vlen), rest)
unfolding header_at header
header_again version vlen rest =
    ap header_at (append_assoc (half (version_code version)) (vlen_code vlen ∷ 0 ∷ []) rest)
    ∙ rw (half_again (version_code version) ((vlen_code vlen ∷ 0 ∷ []) ++ rest) (version_small version), version_back version, byte_again (vlen_code vlen) ((0 ∷ []) ++ rest), vlen_back vlen, zero_again error.Version rest) refl

-- ---- parameters

-- what a kind, a mode and two numbers stand for
record Means (kind code a b : ℕ) (param : Param) : Type 0 where
  spelled : parameter_of kind code a b ≡ spelled_parameter param
  valid : IsParameter param

means : (kind code a b : ℕ) → leb kind 2 ≡ true → is_mode kind code ≡ true → is_first_number kind a ≡ true → is_second_number kind a b ≡ true → b < 2 ^ 32 → Means kind code a b (param_of kind code a b)
unfolding is_mode is_first_number is_second_number param_of spelled_parameter is_valid
means zero code a b le mode first second small =
    record { spelled = rw (eqb-true code 0 mode, eqb-true a 0 first, eqb-true b 0 second) refl; valid = (refl, tt) }
means (suc zero) code a b le mode first second small =
    record { spelled = rw (eqb-true code 0 mode) refl; valid = (second, small) }
means (suc (suc zero)) code a b le mode first second small =
    record { spelled = rw (eqb-true b 0 second) (by_code (eqb code 1) refl mode); valid = (first, tt) }
  where
    by_code : (t : Bool) → eqb code 1 ≡ t → (t || eqb code 3) ≡ true → parameter_of 2 code a 0 ≡ spelled_parameter (parameter.Buffer (cond t Read ReadWrite) a)
    by_code true is or = rw (eqb-true code 1 is) refl
    by_code false is or = rw (eqb-true code 3 or) refl
means (suc (suc (suc kind))) code a b le mode first second small = absurd (grind (arith, nat_tests, le))

parameter_takes : (bytes : List ℕ) (x : Param) (rest : List ℕ) → AreBytes bytes → parameter_at bytes ≡ Ok (x, rest) → Takes bytes (spelled_parameter x) rest × IsParameter x
unfolding parameter_at parameter_of
parameter_takes bytes x rest fits e =
    after (byte_at bytes) _ (x, rest) e (λ a is_a e1.
    meeting (leb a.0 2) _ _ _ (x, rest) e1 (λ kind e2.
    after (byte_at a.1) _ (x, rest) e2 (λ b is_b e3.
    meeting (is_mode a.0 b.0) _ _ _ (x, rest) e3 (λ mode e4.
    after (zeros_at error.Parameter b.1) _ (x, rest) e4 (λ c is_c e5.
    after (number_at _ c) _ (x, rest) e5 (λ d is_d e6.
    meeting (is_first_number a.0 d.0) _ _ _ (x, rest) e6 (λ first e7.
    after (number_at _ d.1) _ (x, rest) e7 (λ f is_f e8.
    meeting (is_second_number a.0 d.0 f.0) _ _ _ (x, rest) e8 (λ second e9.
    let t0 = byte_takes bytes a.0 a.1 fits is_a in
    let t1 = byte_takes a.1 b.0 b.1 t0.0.rest_fits is_b in
    let t2 = zeros_takes error.Parameter b.1 c t1.0.rest_fits is_c in
    let t3 = word_takes c d.0 d.1 t2.rest_fits is_d in
    let t4 = word_takes d.1 f.0 f.1 t3.0.rest_fits is_f in
    let k = a.0 ∷ b.0 ∷ [] in
    let w1 = Takes-then bytes (a.0 ∷ []) a.1 (b.0 ∷ []) b.1 t0.0 t1.0 in
    let w2 = Takes-then bytes k b.1 (half 0) c w1 t2 in
    let w3 = Takes-then bytes (k ++ half 0) c (word d.0) d.1 w2 t3.0 in
    let w4 = Takes-then bytes ((k ++ half 0) ++ word d.0) d.1 (word f.0) f.1 w3 t4.0 in
    let m = means a.0 b.0 d.0 f.0 kind mode first second t4.1 in
    subst (λ (y : Param × List ℕ). Takes bytes (spelled_parameter y.0) y.1 × IsParameter y.0) (ok_is (param_of a.0 b.0 d.0 f.0, f.1) (x, rest) e9)
    (subst (λ (t : List ℕ). Takes bytes t f.1) m.spelled w4, m.valid))))))))))

numbers_again : (kind code a b : ℕ) (rest : List ℕ) → leb kind 2 ≡ true → is_mode kind code ≡ true → is_first_number kind a ≡ true → is_second_number kind a b ≡ true → a < 2 ^ 32 → b < 2 ^ 32 →
    parameter_at (parameter_of kind code a b ++ rest) ≡ Ok (param_of kind code a b, rest)
unfolding parameter_at parameter_of byte_at
numbers_again kind code a b rest le m first second small less =
    ap (λ (t : List ℕ). parameter_at (kind ∷ code ∷ t)) (regroup3 (half 0) (word a) (word b) rest)
    ∙ rw (le, m, zeros_again error.Parameter (word a ++ (word b ++ rest)), word_again a (word b ++ rest) small, first, word_again b rest less, second) refl

small_size : (size limit : ℕ) → limit ≡ 2 ^ 24 → leb size limit ≡ true → size < 2 ^ 32
small_size size limit is le = grind (arith, nat_tests, is, le)

parameter_again : (x : Param) (rest : List ℕ) → IsParameter x → parameter_at (spelled_parameter x ++ rest) ≡ Ok (x, rest)
unfolding spelled_parameter is_mode is_first_number is_second_number param_of is_valid
parameter_again parameter.None rest is = numbers_again 0 0 0 0 rest refl refl refl refl (omega arith) (omega arith)
parameter_again (parameter.Scalar lo hi) rest is =
    let le : lo ≤ hi = grind (arith, nat_tests, is.0) in
    numbers_again 1 0 lo hi rest refl refl refl is.0 (omega (arith, le, is.1)) is.1
parameter_again (parameter.Buffer Read size) rest is =
    numbers_again 2 1 size 0 rest refl refl is.0 refl (small_size size _ refl is.0) (omega arith)
parameter_again (parameter.Buffer ReadWrite size) rest is =
    numbers_again 2 3 size 0 rest refl refl is.0 refl (small_size size _ refl is.0) (omega arith)

all_from : (params : List Param) → AllFrom (λ from p. IsParameter p) after_parameter 0 params → AllByRecursion IsParameter params
all_from [] all = tt
all_from (p ∷ params) all = (all.0, all_from params all.1)

from_all : (params : List Param) → AllByRecursion IsParameter params → AllFrom (λ from p. IsParameter p) after_parameter 0 params
from_all [] all = tt
from_all (p ∷ params) all = (all.0, from_all params all.1)

-- ---- the count of blocks

count_takes : (bytes : List ℕ) (x : ℕ) (rest : List ℕ) → AreBytes bytes → count_at bytes ≡ Ok (x, rest) → Takes bytes (half x ++ half 0) rest × (x ≤ 1024)
unfolding count_at
count_takes bytes x rest fits e =
    let a = bind_ok (number_at _ bytes) _ (x, rest) e in
    let p = expected (leb a.0.0 1024) _ _ _ (x, rest) a.2 in
    let b = bind_ok (zeros_at error.TooMany a.0.1) _ (x, rest) p.1 in
    let few : a.0.0 ≤ 1024 = grind (arith, nat_tests, p.0) in
    let t0 = half_takes bytes a.0.0 a.0.1 fits a.1 in
    let t1 = zeros_takes error.TooMany a.0.1 b.0 t0.0.rest_fits b.1 in
    subst (λ (y : ℕ × List ℕ). Takes bytes (half y.0 ++ half 0) y.1 × (y.0 ≤ 1024)) (ok_is (a.0.0, b.0) (x, rest) b.2) (Takes-then bytes (half a.0.0) a.0.1 (half 0) b.0 t0.0 t1, few)

count_again : (x : ℕ) (rest : List ℕ) → x ≤ 1024 → count_at (half x ++ (half 0 ++ rest)) ≡ Ok (x, rest)
unfolding count_at
count_again x rest few =
    let le : leb x 1024 ≡ true = grind (arith, nat_tests, few) in
    rw (half_again x (half 0 ++ rest) (omega arith), le, zeros_again error.TooMany rest) refl

-- ---- the whole

same_params : (params found_params : List Param) → parameters_of params ≡ Some found_params → params ≡ found_params
unfolding parameters_of
same_params params found_params e =
    elim (chosen (list_all is_valid params) (Some params) None (Some found_params) e) [
      | inl h ↦ some_is params found_params h.1
      | inr h ↦ absurd (let f = h.1 in cc)
    ]

few_blocks : (n m : ℕ) → n ≡ m → m ≤ 1024 → n ≤ 1024
few_blocks n m e h = omega arith

-- what stands before the blocks
abbrev spelled_front : Front → List ℕ
spelled_front front = (header front.version front.vlen ++ flat_map spelled_parameter front.parameters) ++ (half front.count ++ half 0)

record IsFront (front : Front) : Type 0 where
  eight : length front.parameters ≡ 8
  parameters : AllByRecursion IsParameter front.parameters
  few : front.count ≤ 1024

front_takes : (bytes : List ℕ) (x : Front) (rest : List ℕ) → AreBytes bytes → front_at bytes ≡ Ok (x, rest) → Takes bytes (spelled_front x) rest × IsFront x
unfolding front_at
front_takes bytes x rest fits e =
    let a = bind_ok (header_at bytes) _ (x, rest) e in
    let b = bind_ok (parameters_at 8 a.0.1) _ (x, rest) a.2 in
    let c = found (parameters_of b.0.0) _ _ (x, rest) b.2 in
    let d = bind_ok (count_at b.0.1) _ (x, rest) c.2 in
    let same = same_params b.0.0 c.0 c.1 in
    let t0 = header_takes bytes a.0.0 a.0.1 fits a.1 in
    let t1 = many_takes parameter_from after_parameter spelled_parameter (λ from q. IsParameter q) (λ from bs q r h k. parameter_takes bs q r h k) 8 0 a.0.1 b.0.0 b.0.1 t0.rest_fits b.1 in
    let t2 = count_takes b.0.1 d.0.0 d.0.1 t1.0.rest_fits d.1 in
    let named : Takes a.0.1 (flat_map spelled_parameter c.0) b.0.1 = subst (λ (ps : List Param). Takes a.0.1 (flat_map spelled_parameter ps) b.0.1) same t1.0 in
    let e1 = Takes-then bytes (header a.0.0.0 a.0.0.1) a.0.1 (flat_map spelled_parameter c.0) b.0.1 t0 named in
    let e2 = Takes-then bytes (header a.0.0.0 a.0.0.1 ++ flat_map spelled_parameter c.0) b.0.1 (half d.0.0 ++ half 0) d.0.1 e1 t2.0 in
    let made : Front × List ℕ = (record { version = a.0.0.0; vlen = a.0.0.1; parameters = c.0; count = d.0.0 }, d.0.1) in
    subst (λ (y : Front × List ℕ). Takes bytes (spelled_front y.0) y.1 × IsFront y.0) (ok_is made (x, rest) d.2)
    (e2, record { eight = subst (λ (ps : List Param). length ps ≡ 8) same t1.1; parameters = subst (λ (ps : List Param). AllByRecursion IsParameter ps) same (all_from b.0.0 t1.2); few = t2.1 })

-- nothing stands where nothing is read
nothing_is : {B : Type 0} (rest : List ℕ) (f : Unit {0} → Result B Fault) (y : B) → (nothing_at rest >>= f) ≡ Ok y → (rest ≡ []) × (f tt ≡ Ok y)
nothing_is [] f y e = (refl, e)
nothing_is (b ∷ rest) f y e = absurd (cc)

-- The certificate is the one that is read.
pub is_read : (bytes : List ℕ) (x : CertificateView) → certificate_of bytes ≡ Ok x → reading_of bytes ≡ Ok x
unfolding certificate_of
is_read bytes x e =
    by_result (reading_of bytes) refl e
  where
    by_result : (r : Result CertificateView Fault) → reading_of bytes ≡ r → result_map_both (λ c. c) (λ f. f.error) r ≡ Ok x → reading_of bytes ≡ Ok x
    by_result (Ok y) is h = is ∙ (let same : y ≡ x = cc in ap (λ c. Ok c) same)
    by_result (Err f) is h = absurd (cc)

pub reads : (bytes : List ℕ) (x : CertificateView) → reading_of bytes ≡ Ok x → certificate_of bytes ≡ Ok x
unfolding certificate_of
reads bytes x e = ap (result_map_both (λ c. c) (λ f. f.error)) e

pub certificate_takes : (bytes : List ℕ) (x : CertificateView) → AreBytes bytes → certificate_of bytes ≡ Ok x → IsCertificate x × (bytes ≡ spelling x)
unfolding reading_of spelling
certificate_takes bytes x fits e =
    let a = bind_ok (front_at bytes) _ x (is_read bytes x e) in
    let front = a.0.0 in
    let b = bind_ok (blocks_behind front front.count a.0.1) _ x a.2 in
    let c = nothing_is b.0.1 _ x b.2 in
    let t0 = front_takes bytes front a.0.1 fits a.1 in
    let t1 = many_takes (block_at front.version front.vlen front.parameters) after_block (spelled_block front.version) (IsBlock front.version front.vlen front.parameters) (block_takes front.version front.vlen front.parameters) front.count 0 a.0.1 b.0.0 b.0.1 t0.0.rest_fits b.1 in
    let blocks = flat_map (spelled_block front.version) b.0.0 in
    let e1 = Takes-then bytes (spelled_front front) a.0.1 blocks b.0.1 t0.0 t1.0 in
    let ended : bytes ≡ spelled_front front ++ blocks = e1.parts ∙ ap (λ (r : List ℕ). (spelled_front front ++ blocks) ++ r) c.0 ∙ append-nil (spelled_front front ++ blocks) in
    let counted = subst (λ (n : ℕ). bytes ≡ ((header front.version front.vlen ++ flat_map spelled_parameter front.parameters) ++ (half n ++ half 0)) ++ blocks) (sym t1.1) ended in
    let whole = counted ∙ ap (λ (t : List ℕ). t ++ blocks) (sym (append_assoc (header front.version front.vlen ++ flat_map spelled_parameter front.parameters) (half (length b.0.0)) (half 0))) in
    let made : CertificateView = record { version = front.version; vlen = front.vlen; parameters = front.parameters; blocks = b.0.0 } in
    subst (λ (y : CertificateView). IsCertificate y × (bytes ≡ spelling y)) (ok_is made x c.1)
    (record { eight = t0.1.eight; parameters = t0.1.parameters; few = few_blocks (length b.0.0) front.count t1.1 t0.1.few; blocks = t1.2 }, whole)

pub certificate_again : (x : CertificateView) → IsCertificate x → certificate_of (spelling x) ≡ Ok x
unfolding reading_of front_at spelling parameters_of
certificate_again x is =
    let blocks = flat_map (spelled_block x.version) x.blocks in
    let counted = half (length x.blocks) ++ (half 0 ++ blocks) in
    let read : parameters_at 8 (flat_map spelled_parameter x.parameters ++ counted) ≡ Ok (x.parameters, counted) =
    subst (λ (n : ℕ). parameters_at n (flat_map spelled_parameter x.parameters ++ counted) ≡ Ok (x.parameters, counted)) is.eight
    (many_again parameter_from after_parameter spelled_parameter (λ from q. IsParameter q) (λ from q r h. parameter_again q r h) 0 x.parameters counted (from_all x.parameters is.parameters)) in
    let last : blocks_at x.version x.vlen x.parameters (length x.blocks) 0 blocks ≡ Ok (x.blocks, []) =
    ap (blocks_at x.version x.vlen x.parameters (length x.blocks) 0) (sym (append-nil blocks)) ∙ many_again (block_at x.version x.vlen x.parameters) after_block (spelled_block x.version) (IsBlock x.version x.vlen x.parameters) (block_again x.version x.vlen x.parameters) 0 x.blocks [] is.blocks in
    reads (spelling x) x
    (ap reading_of (regroup4 (header x.version x.vlen) (flat_map spelled_parameter x.parameters) (half (length x.blocks)) (half 0) blocks)
    ∙ rw (header_again x.version x.vlen (flat_map spelled_parameter x.parameters ++ counted), read, valid_all x.parameters is.parameters, count_again (length x.blocks) blocks is.few, last) refl)

-- Two certificates of one spelling are one.
pub one_certificate : (c d : CertificateView) → IsCertificate c → IsCertificate d → spelling c ≡ spelling d → c ≡ d
one_certificate c d is it same =
    ok_is c d (sym (is_read (spelling c) c (certificate_again c is)) ∙ is_read (spelling c) d (ap certificate_of same ∙ certificate_again d it))
