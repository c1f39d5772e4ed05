-- What no write has come to stays 0, and a stack that is cleared from there on is zeros.
use Rattle.std.proofs.Common.{◌≡◌, ℕ, ◌+◌, ◌-◌, ◌≤◌, List, length, take, drop, set, replicate, ◌++◌, ◌^◌, arith, ap, sym, ◌∙◌}
use Rattle.std.proofs.lemmas.List.{take-take, take-replicate, take-set-le, take-append-le, length-take, length-take-le, length-set, length-append, length-drop, length-replicate, replicate-append-replicate, take_all, append_assoc}
use Rattle.region_mem.specs.Areas.{overlaid}
use Rattle.region_mem.specs.Start.{zeros}

-- the first bytes, where they are as they were
kept : (u k : ℕ) (old new : List ℕ) → k ≤ u → take k new ≡ take k old → take u old ≡ zeros u → take k new ≡ zeros k
unfolding zeros
kept u k old new below same before =
    same ∙ (sym (take-take k u old below) ∙ (ap (take k) before ∙ take-replicate k u 0 below))

pub kept_at : (u k at byte : ℕ) (old : List ℕ) → k ≤ u → k ≤ at → take u old ≡ zeros u → take k (set old at byte) ≡ zeros k
kept_at u k at byte old below before was = kept u k old (set old at byte) below (take-set-le k old at byte before) was

-- bytes, and all in front of them as it was
kept_before : (u k at : ℕ) (old after : List ℕ) → k ≤ u → k ≤ at → at ≤ length old → take u old ≡ zeros u → take k (take at old ++ after) ≡ zeros k
kept_before u k at old after below before inside was =
    kept u k old _ below
    (take-append-le k (take at old) after (omega (arith, length-take-le at old inside, before)) ∙ take-take k at old before) was

pub kept_lent : (u k at : ℕ) (old bytes : List ℕ) → k ≤ u → k ≤ at → at ≤ length old → take u old ≡ zeros u → take k (overlaid at old bytes) ≡ zeros k
unfolding overlaid
kept_lent u k at old bytes below before inside was =
    take-take k (length old) _ (omega (arith, before, inside))
    ∙ kept_before u k at old _ below before inside was

pub untouched_below : (u : ℕ) (bytes : List ℕ) → take u bytes ≡ zeros u → u ≤ length bytes
unfolding zeros
untouched_below u bytes is = omega (arith, length-take u bytes, ap length is, length-replicate {A = ℕ} u 0)

pub cleared : (u n : ℕ) (bytes : List ℕ) → length bytes ≡ n → take u bytes ≡ zeros u → take u bytes ++ replicate (length bytes - u) 0 ≡ zeros n
unfolding zeros
cleared u n bytes size is =
    ap (λ xs. xs ++ replicate (length bytes - u) 0) is
    ∙ (replicate-append-replicate u (length bytes - u) 0
    ∙ ap (λ k. replicate k 0) (omega (arith, untouched_below u bytes is, size)))

-- bytes that no write has come to, and an end inside
abbrev pub Stays : ℕ → ℕ → List ℕ → Type 0
Stays first u bytes = (first + length bytes ≤ 2 ^ 32) × (take u bytes ≡ zeros u)

pub stays_at : (first u k at byte : ℕ) (old : List ℕ) → Stays first u old → k ≤ u → k ≤ at → Stays first k (set old at byte)
stays_at first u k at byte old was below before =
    (omega (arith, was.0, length-set old at byte), kept_at u k at byte old below before was.1)

pub stays_part : (first u k at : ℕ) (old bytes : List ℕ) → Stays first u old → k ≤ u → k ≤ at → at + length bytes ≤ length old →
    Stays first k (take at old ++ bytes ++ drop (at + length bytes) old)
stays_part first u k at old bytes was below before fits =
    let inside : at ≤ length old = omega (arith, fits) in
    let size : length (take at old ++ bytes ++ drop (at + length bytes) old) ≡ length old =
    omega (arith, length-append (take at old ++ bytes) (drop (at + length bytes) old), length-append (take at old) bytes, length-take-le at old inside, length-drop (at + length bytes) old, fits) in (
      omega (arith, was.0, size),
      ap (take k) (append_assoc (take at old) bytes (drop (at + length bytes) old)) ∙ kept_before u k at old _ below before inside was.1,
    )

pub stays_lent : (first u k at : ℕ) (old bytes : List ℕ) → Stays first u old → k ≤ u → k ≤ at → at ≤ length old → length (overlaid at old bytes) ≡ length old →
    Stays first k (overlaid at old bytes)
stays_lent first u k at old bytes was below before inside size =
    (omega (arith, was.0, size), kept_lent u k at old bytes below before inside was.1)

pub all_untouched : (n : ℕ) (bytes : List ℕ) → bytes ≡ zeros n → take (length bytes) bytes ≡ zeros (length bytes)
unfolding zeros
all_untouched n bytes is =
    take_all (length bytes) bytes (omega arith)
    ∙ (is ∙ ap (λ k. replicate k 0) (sym (length-replicate n 0) ∙ sym (ap length is)))
