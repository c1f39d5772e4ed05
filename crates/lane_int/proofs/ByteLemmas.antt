-- Elements of several bytes, as lanes of vectors that were made of bytes.
use Rattle.std.proofs.Common.{◌≡◌, ℕ, ◌+◌, ◌*◌, ◌/◌, ◌%◌, ◌^◌, ◌<◌, ◌≤◌, List, [], ◌∷◌, ◌++◌, zero, suc, length, take, drop, get_or, refl, ap, ap₂, sym, ◌∙◌, arith, true, Fits, w8}
use lib.Lanes.{zip2, number_l, digits_l, Each1}
use Rattle.std.specs.Int.{Width, byte_at, bytes_low_first}
use mir.Val.{bits}
use Rattle.byteorder.specs.Endian.{little_from}
use Rattle.byteorder.specs.Numbers.{little_from-cons, little_number-reads_back}
use Rattle.std.proofs.lemmas.Simd.{get_or_wider, get_or_narrower, get_or-zip2, below_from_Fits, Each1-get_or}
use Rattle.rv_decode.specs.declared.instructions.IntOp.{IntOp}
use Rattle.lane_int.specs.declared.operations.Op.{Op}
use Rattle.lane_int.specs.Chunks.{chunk_op, has_chunk, lane_of}
use Rattle.lane_int.specs.Integer.{element}
use Rattle.lane_int.specs.Lists.{zip3}
use Rattle.lane_int.proofs.ChunkKernelLemmas.{same_lanes}
pub use Rattle.lane_int.specs.LaneLemmas.{byte_alone}

-- the bytes from place i on as a number
number_there : (i k : ℕ) (xs : List ℕ) → i + k ≤ length xs → number_l 256 (take k (drop i xs)) ≡ little_from i k xs
number_there i zero xs le = refl
number_there zero (suc k) [] le = absurd (omega (arith, le))
number_there zero (suc k) (x ∷ xs) le = ap (λ n. x + 256 * n) (number_there zero k xs (omega (arith, le)) ∙ sym (little_from-cons zero k x xs))
number_there (suc i) (suc k) [] le = absurd (omega (arith, le))
number_there (suc i) (suc k) (x ∷ xs) le = number_there i (suc k) xs (omega (arith, le)) ∙ sym (little_from-cons i (suc k) x xs)

-- a lane that is made of k bytes
pub lane_of_bytes : (k q n : ℕ) (xs : List ℕ) (j : ℕ) → q ≡ 256 ^ k → Each1 (λ x. x < 256) xs → j < n → k * j + k ≤ length xs → get_or (digits_l q n (number_l 256 xs)) j 0 ≡ little_from (k * j) k xs
lane_of_bytes k q n xs j is small lt le = get_or_wider 256 k q n xs j is small lt ∙ number_there (k * j) k xs le

byte_at-pow : (k x : ℕ) → byte_at k x ≡ x / 256 ^ k % 256
byte_at-pow zero x = let e : x ≡ x / 1 = omega arith in ap (λ (y : ℕ). y % 256) e
byte_at-pow (suc k) x = refl

-- bytes that are those of a number
number_of : (k s i v : ℕ) (xs : List ℕ) → ((t : ℕ) → t < k → get_or xs (i + t) 0 ≡ v / 256 ^ (s + t) % 256) → little_from i k xs ≡ little_from 0 k (bytes_low_first s k v ++ [])
number_of zero s i v xs h = refl
number_of (suc k) s i v xs h =
    let low : get_or xs i 0 ≡ byte_at s v = ap (λ m. get_or xs m 0) (omega arith) ∙ h 0 (omega arith) ∙ ap (λ m. v / 256 ^ m % 256) (omega arith) ∙ sym (byte_at-pow s v) in
    let high : little_from (suc i) k xs ≡ little_from 0 k (bytes_low_first (suc s) k v ++ []) =
    number_of k (suc s) (suc i) v xs (λ t lt. ap (λ m. get_or xs m 0) (omega arith) ∙ h (suc t) (omega (arith, lt)) ∙ ap (λ m. v / 256 ^ m % 256) (omega arith)) in
    ap₂ (λ b n. b + 256 * n) low (high ∙ sym (little_from-cons 0 k (byte_at s v) (bytes_low_first (suc s) k v ++ [])))

-- the bytes of a lane
pub bytes_of_lane : (k p n : ℕ) (rs : List ℕ) (j : ℕ) → p ≡ 256 ^ k → Each1 (λ r. r < p) rs → k * j + k ≤ n → get_or rs j 0 < p → little_from (k * j) k (digits_l 256 n (number_l p rs)) ≡ get_or rs j 0
bytes_of_lane k p n rs j is small le lt =
    number_of k 0 (k * j) (get_or rs j 0) _ (λ t less. get_or_narrower p k 256 n rs j t is small less (omega (arith, le, less)) ∙ ap (λ m. get_or rs j 0 / 256 ^ m % 256) (omega arith))
    ∙ little_number-reads_back k (get_or rs j 0) [] (omega (arith, is, lt))

-- the same of what the logic knows of vectors
pub lane_in_bytes : (k q n : ℕ) (xs : List ℕ) (j : ℕ) → q ≡ 256 ^ k → Each1 (Fits w8) xs → j < n → k * j + k ≤ length xs → get_or (digits_l q n (number_l 256 xs)) j 0 ≡ little_from (k * j) k xs
lane_in_bytes k q n xs j is fits lt le = lane_of_bytes k q n xs j is (below_from_Fits w8 xs fits) lt le

pub lane_as_bytes : (w : Width) (k m n : ℕ) (rs : List ℕ) (j : ℕ) → 2 ^ bits w ≡ 256 ^ k → Each1 (Fits w) rs → k * j + k ≤ n → j < length rs → little_from (k * j) k (digits_l 256 n (number_l (2 ^ bits w) rs)) ≡ get_or rs j 0
lane_as_bytes w k m n rs j is fits le lt =
    let small = below_from_Fits w rs fits in
    bytes_of_lane k (2 ^ bits w) n rs j is small le (Each1-get_or (λ r. r < 2 ^ bits w) rs j 0 lt small)

-- a chunk call on the elements that lie in bytes
pub computed_bytes : (op : IntOp) (w : Width) (o : Op) (k n : ℕ) (ns ms xs ys rs : List ℕ) (bytes : List ℕ) → has_chunk op ≡ true → o ≡ chunk_op op → rs ≡ zip3 (lane_of o w) xs ys xs → length xs ≡ n → length ys ≡ n
    → ((j : ℕ) → j < n → get_or xs j 0 ≡ little_from (k * j) k ns) → ((j : ℕ) → j < n → get_or ys j 0 ≡ little_from (k * j) k ms) → ((j : ℕ) → j < n → little_from (k * j) k bytes ≡ get_or rs j 0)
    → (j : ℕ) → j < n → little_from (k * j) k bytes ≡ element op w (little_from (k * j) k ns) (little_from (k * j) k ms)
computed_bytes op w o k n ns ms xs ys rs bytes is same is_rs long_x long_y at_x at_y out j lt =
    let rs_is : rs ≡ zip2 (element op w) xs ys = is_rs ∙ ap (λ p. zip3 (lane_of p w) xs ys xs) same ∙ same_lanes op w xs ys xs is (long_y ∙ sym long_x) refl in
    out j lt ∙ ap (λ zs. get_or zs j 0) rs_is ∙ get_or-zip2 (element op w) xs ys j 0 0 0 (omega (arith, lt, long_x)) (omega (arith, lt, long_y)) ∙ ap₂ (element op w) (at_x j lt) (at_y j lt)
