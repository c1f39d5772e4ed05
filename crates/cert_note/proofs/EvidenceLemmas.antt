-- Why bytes are no certificate, with the block in which the first fault lies.
use Rattle.std.proofs.Common.{◌≡◌, ℕ, ◌+◌, ◌-◌, ◌≤◌, ◌<◌, min, true, false, List, Option, Some, None, Result, Ok, Err, refl, ap, subst, ◌∙◌, arith}
use Rattle.std.specs.Prelude.{IsOk, IsErr, IfSome, option_map}
use Rattle.std.proofs.Math.Nat.{min-le_right, min-eq_left}
use Rattle.cert_note.specs.Words.{Front, Block}
use Rattle.cert_note.specs.declared.refusals.CertError.{CertError}
use Rattle.cert_note.specs.declared.refusals.Fault.{Fault}
use Rattle.cert_note.specs.Certificate.{CertificateView, after_block}
use Rattle.cert_note.specs.Reading.{One, many_at, block_at, front_at, blocks_behind, nothing_at, reading_of, certificate_of, first_blocks, refusal_of, StopsIn, IsFaultBlock, IsRefusal}
use Rattle.cert_note.proofs.Loop.{still_fails}
use Rattle.cert_note.proofs.PlaceLemmas.{fault_place}

abbrev failed : CertError → Result CertificateView CertError
failed e = Err e

error_told : (bytes : List ℕ) (f : Fault) → reading_of bytes ≡ Err f → certificate_of bytes ≡ Err f.error
unfolding certificate_of
error_told bytes f e = rw e refl

-- a fault, with its block and its place
is_told : (bytes : List ℕ) (f : Fault) (block : Option ℕ) → reading_of bytes ≡ Err f → IsFaultBlock bytes block → IsRefusal bytes (refusal_of bytes f block)
is_told bytes f block e is = rw (error_told bytes f e) (record { error = refl; block = is; place = fault_place bytes f e })

not_ok : {A : Type 0} (r : Result A Fault) (f : Fault) → r ≡ Err f → ¬ (IsOk r)
not_ok (Ok x) f is ok = absurd (cc)
not_ok (Err g) f is ok = absurd (let both : false ≡ true = ok in cc)

not_err : {A : Type 0} (r : Result A Fault) (x : A) → r ≡ Ok x → ¬ (IsErr r)
not_err (Ok y) x is fails = absurd (let both : false ≡ true = fails in cc)
not_err (Err g) x is fails = absurd (cc)

-- the first fault lies before the blocks
pub refused_front : (bytes : List ℕ) (f : Fault) → front_at bytes ≡ Err f → IsRefusal bytes (refusal_of bytes f None)
unfolding reading_of first_blocks
refused_front bytes f e = is_told bytes f None (rw e refl) (λ n lies. not_ok (first_blocks n bytes) f (rw e refl) lies.before)

-- it lies in a block
pub refused_block : (bytes : List ℕ) (front : Front) (rest : List ℕ) (f : Fault) (n : ℕ) → front_at bytes ≡ Ok (front, rest) → StopsIn front rest f n → IsRefusal bytes (refusal_of bytes f (Some n))
unfolding reading_of first_blocks
refused_block bytes front rest f n e stops =
    let among : n < front.count = stops.among in
    let parts : front.count ≡ n + 1 + (front.count - (n + 1)) = omega (arith, among) in
    let total : blocks_behind front front.count rest ≡ Err f = ap (λ k. blocks_behind front k rest) parts ∙ still_fails (block_at front.version front.vlen front.parameters) after_block (n + 1) (front.count - (n + 1)) 0 rest f stops.with_it in
    let first : min n front.count ≡ n = min-eq_left (omega (arith, among)) in
    let second : min (n + 1) front.count ≡ n + 1 = min-eq_left (omega (arith, among)) in
    is_told bytes f (Some n) (rw (e, total) refl) (record { before = rw (e, first) stops.before; with_it = rw (e, second, stops.with_it) refl })

-- Of items that are all read, some of them are.
none_fails : {A : Type 0} (one : One A) (next : A → ℕ) (n count from : ℕ) (bytes : List ℕ) (x : List A × List ℕ) → n ≤ count → many_at one next count from bytes ≡ Ok x → ¬ (IsErr (many_at one next n from bytes))
none_fails {A} one next n count from bytes x le e = by_result (many_at one next n from bytes) refl
  where
    parts : count ≡ n + (count - n)
    parts = omega (arith, le)

    by_result : (r : Result (List A × List ℕ) Fault) → many_at one next n from bytes ≡ r → ¬ (IsErr (many_at one next n from bytes))
    by_result (Ok y) is fails = not_err (many_at one next n from bytes) y is fails
    by_result (Err f) is fails =
        let total : many_at one next count from bytes ≡ Err f = ap (λ k. many_at one next k from bytes) parts ∙ still_fails one next n (count - n) from bytes f is in
        absurd (cc)

-- it lies behind them
pub refused_behind : (bytes : List ℕ) (front : Front) (rest : List ℕ) (blocks : List Block) (after : List ℕ) (f : Fault) →
    front_at bytes ≡ Ok (front, rest) → blocks_behind front front.count rest ≡ Ok (blocks, after) → nothing_at after ≡ Err f → IsRefusal bytes (refusal_of bytes f None)
unfolding reading_of first_blocks
refused_behind bytes front rest blocks after f e read behind =
    is_told bytes f None (rw (e, read, behind) refl)
    (λ n lies.
    let same : first_blocks (n + 1) bytes ≡ blocks_behind front (min (n + 1) front.count) rest = rw e refl in
    none_fails (block_at front.version front.vlen front.parameters) after_block (min (n + 1) front.count) front.count 0 rest (blocks, after) (min-le_right (n + 1) front.count) read
    (subst (λ (r : Result (List Block × List ℕ) Fault). IsErr r) same lies.with_it))

-- Nothing stands behind them.
pub all_is_read : (bytes : List ℕ) (front : Front) (rest : List ℕ) (kept blocks : List Block) (after : List ℕ) →
    front_at bytes ≡ Ok (front, rest) → kept ≡ blocks → blocks_behind front front.count rest ≡ Ok (blocks, after) → nothing_at after ≡ Ok tt
    → certificate_of bytes ≡ Ok (record { version = front.version; vlen = front.vlen; parameters = front.parameters; blocks = kept })
unfolding certificate_of reading_of
all_is_read bytes front rest kept blocks after e same read behind = rw (e, read, behind, same) refl

-- What is kept is all that is read.
pub all_kept : {V : Type 0} (items : V → List Block) (kept : Option V) (v : V) (blocks : List Block) → kept ≡ Some v → IfSome (option_map items kept) (λ xs. xs ≡ blocks) → items v ≡ blocks
all_kept {V} items kept v blocks e is = subst (λ (o : Option V). IfSome (option_map items o) (λ xs. xs ≡ blocks)) e is
