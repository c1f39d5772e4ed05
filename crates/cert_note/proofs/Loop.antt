-- Reading items one after the other, as a loop does: each is read from a state that the one before it leaves.
use Rattle.std.proofs.Common.{◌≡◌, ℕ, zero, suc, ◌-◌, ◌+◌, ◌≤◌, ◌<◌, List, [], ◌∷◌, ◌++◌, Result, Ok, Err, refl, sym, ap, ◌∙◌, append_assoc, arith}
use Rattle.std.proofs.lemmas.List.{append-nil}
use Rattle.cert_note.specs.declared.refusals.Fault.{Fault}
use Rattle.cert_note.specs.Reading.{◌>>=◌, One, many_at}

-- what was read before, and what is still read
abbrev pub with_front : {A : Type 0} → List A → Result (List A × List ℕ) Fault → Result (List A × List ℕ) Fault
with_front front read = read >>= λ x. Ok (front ++ x.0, x.1)

-- reading none, and one more
pub none : {A : Type 0} (one : One A) (next : A → ℕ) (from : ℕ) (bytes : List ℕ) → many_at one next 0 from bytes ≡ Ok ([], bytes)
unfolding many_at
none one next from bytes = refl

pub more : {A : Type 0} (one : One A) (next : A → ℕ) (n from : ℕ) (bytes : List ℕ) →
    many_at one next (suc n) from bytes ≡ (one from bytes >>= λ first. many_at one next n (next first.0) first.1 >>= λ others. Ok (first.0 ∷ others.0, others.1))
unfolding many_at
more one next n from bytes = refl

regroup : {A : Type 0} (front : List A) (n : A) (read : Result (List A × List ℕ) Fault) → with_front front (read >>= λ x. Ok (n ∷ x.0, x.1)) ≡ with_front (front ++ n ∷ []) read
regroup front n (Ok x) = ap (λ ns. Ok (ns, x.1)) (simp append_assoc)
regroup front n (Err f) = refl

pub goes_on : {A : Type 0} (one : One A) (next : A → ℕ) →
    (front : List A) (count i from : ℕ) (bytes : List ℕ) (n : A) (after : List ℕ) (total : Result (List A × List ℕ) Fault) → i < count → one from bytes ≡ Ok (n, after)
    → with_front front (many_at one next (count - i) from bytes) ≡ total → with_front (front ++ n ∷ []) (many_at one next (count - (i + 1)) (next n) after) ≡ total
goes_on one next front count i from bytes n after total lt h so_far =
    let k : count - i ≡ suc (count - (i + 1)) = omega arith in
    let step : with_front front (many_at one next (count - i) from bytes) ≡ with_front (front ++ n ∷ []) (many_at one next (count - (i + 1)) (next n) after) = rw (k, more one next (count - (i + 1)) from bytes, h) (regroup front n (many_at one next (count - (i + 1)) (next n) after)) in
    sym step ∙ so_far

pub ends : {A : Type 0} (one : One A) (next : A → ℕ) →
    (f : Fault) (front : List A) (count i from : ℕ) (bytes : List ℕ) (total : Result (List A × List ℕ) Fault) → i < count → one from bytes ≡ Err f
    → with_front front (many_at one next (count - i) from bytes) ≡ total → total ≡ Err f
ends one next f front count i from bytes total lt h so_far =
    let k : count - i ≡ suc (count - (i + 1)) = omega arith in
    let step : with_front front (many_at one next (count - i) from bytes) ≡ Err f = rw (k, more one next (count - (i + 1)) from bytes, h) refl in
    sym so_far ∙ step

pub is_done : {A : Type 0} (one : One A) (next : A → ℕ) →
    (front : List A) (count i from : ℕ) (bytes : List ℕ) (total : Result (List A × List ℕ) Fault) → count ≤ i → with_front front (many_at one next (count - i) from bytes) ≡ total → total ≡ Ok (front, bytes)
is_done one next front count i from bytes total le so_far =
    let k : count - i ≡ 0 = omega arith in
    let step : with_front front (many_at one next (count - i) from bytes) ≡ Ok (front, bytes) = rw (k, none one next from bytes) (ap (λ ns. Ok (ns, bytes)) (append-nil front)) in
    sym so_far ∙ step

-- ---- any number of items

-- Any number of items is read as those that were read before, and what is read on from there.
abbrev pub ReadsOn : {A : Type 0} → One A → (A → ℕ) → ℕ → List ℕ → List A → ℕ → ℕ → List ℕ → Type 0
ReadsOn one next first bytes front i from rest =
    (n : ℕ) → many_at one next (i + n) first bytes ≡ with_front front (many_at one next n from rest)

same : {A : Type 0} (read : Result (List A × List ℕ) Fault) → read ≡ with_front [] read
same (Ok x) = refl
same (Err f) = refl

pub begins : {A : Type 0} (one : One A) (next : A → ℕ) (first : ℕ) (bytes : List ℕ) → ReadsOn one next first bytes [] 0 first bytes
begins one next first bytes = λ n.
    let k : 0 + n ≡ n = omega arith in
    ap (λ m. many_at one next m first bytes) k ∙ same (many_at one next n first bytes)

pub reads_one : {A : Type 0} (one : One A) (next : A → ℕ) (first : ℕ) (bytes : List ℕ) (front : List A) (i from : ℕ) (rest : List ℕ) (x : A) (after : List ℕ) →
    one from rest ≡ Ok (x, after) → ReadsOn one next first bytes front i from rest → ReadsOn one next first bytes (front ++ x ∷ []) (i + 1) (next x) after
reads_one one next first bytes front i from rest x after h so_far = λ n.
    let k : i + 1 + n ≡ i + suc n = omega arith in
    let step : with_front front (many_at one next (suc n) from rest) ≡ with_front (front ++ x ∷ []) (many_at one next n (next x) after) = rw (more one next n from rest, h) (regroup front x (many_at one next n (next x) after)) in
    ap (λ m. many_at one next m first bytes) k ∙ so_far (suc n) ∙ step

pub all_read : {A : Type 0} (one : One A) (next : A → ℕ) (first : ℕ) (bytes : List ℕ) (front : List A) (i from : ℕ) (rest : List ℕ) →
    ReadsOn one next first bytes front i from rest → many_at one next i first bytes ≡ Ok (front, rest)
all_read one next first bytes front i from rest so_far =
    let k : i ≡ i + 0 = omega arith in
    ap (λ m. many_at one next m first bytes) k ∙ so_far 0 ∙ rw (none one next from rest) (ap (λ ns. Ok (ns, rest)) (append-nil front))

pub next_fails : {A : Type 0} (one : One A) (next : A → ℕ) (first : ℕ) (bytes : List ℕ) (front : List A) (i from : ℕ) (rest : List ℕ) (f : Fault) →
    one from rest ≡ Err f → ReadsOn one next first bytes front i from rest → many_at one next (i + 1) first bytes ≡ Err f
next_fails one next first bytes front i from rest f h so_far = so_far 1 ∙ rw (more one next 0 from rest, h) refl

-- one item, and those that are read behind it
abbrev before : {A : Type 0} → A → Result (List A × List ℕ) Fault → Result (List A × List ℕ) Fault
before x read = read >>= λ others. Ok (x ∷ others.0, others.1)

-- What fails fails also where more is read.
pub still_fails : {A : Type 0} (one : One A) (next : A → ℕ) (k m from : ℕ) (bytes : List ℕ) (f : Fault) → many_at one next k from bytes ≡ Err f → many_at one next (k + m) from bytes ≡ Err f
still_fails one next zero m from bytes f e = absurd (let n = none one next from bytes in cc)
still_fails {A} one next (suc k) m from bytes f e =
    ap (λ j. many_at one next j from bytes) k-is
    ∙ (more one next (k + m) from bytes ∙ by_first (λ g rest h. still_fails one next k m g rest f h) (one from bytes) (sym (more one next k from bytes) ∙ e))
  where
    k-is : suc k + m ≡ suc (k + m)
    k-is = omega arith

    others_fail : (r : Result (List A × List ℕ) Fault) (x : A) → before x r ≡ Err f → r ≡ Err f
    others_fail (Ok y) x g = absurd (cc)
    others_fail (Err h) x g = g

    by_first : ((g : ℕ) (rest : List ℕ) → many_at one next k g rest ≡ Err f → many_at one next (k + m) g rest ≡ Err f) → (r : Result (A × List ℕ) Fault)
        → (r >>= λ first. before first.0 (many_at one next k (next first.0) first.1)) ≡ Err f
        → (r >>= λ first. before first.0 (many_at one next (k + m) (next first.0) first.1)) ≡ Err f
    by_first others (Err g) h = h
    by_first others (Ok x) h = ap (before x.0) (others (next x.0) x.1 (others_fail (many_at one next k (next x.0) x.1) x.0 h))
