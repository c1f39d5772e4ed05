-- How often something was read, and why no more is, and what the reads gave.
use Rattle.std.proofs.Common.{◌≡◌, ◌⊎◌, ◌+◌, ◌-◌, ◌^◌, ◌≤◌, ◌<◌, ◌++◌, ◌∙◌, ℕ, Bool, true, false, List, Option, Some, None, Result, Ok, Err, [], IfErr, IfOk, IsErrAnd, ap, inl, inr, length, min, refl, subst, sym, take, arith}
use Rattle.std.proofs.lemmas.Bool.{cases_lt}
use Rattle.std.proofs.lemmas.List.{append-nil, append_assoc, length-append, length-take, take-append-le, take_all, take_at}
use Rattle.std.specs.Io.KnownBytes.{Consumes, IsAtEnd, Keeps, ReadConsumes}
use Rattle.std.specs.IoError.{error_kind}
use Rattle.std.specs.declared.io.Error.{Error}
use Rattle.std.specs.declared.io.ErrorKind.{ErrorKind}
use Rattle.std.specs.declared.io.ErrorKind.TheVariants.{Interrupted, OutOfMemory}
use Rattle.rv_listing.specs.Sinks.{IsCounted, counted}
use Rattle.file_store.specs.Store.{if_failed, store_error_of}
use Rattle.file_store.specs.Sources.{IsUnread, has_failed, is_failure, source}
use Rattle.file_store.specs.System.{IsFirst, IsOpened, Known}
use Rattle.file_store.specs.declared.store.StoreError.{StoreError}
use Rattle.file_store.specs.declared.store.StoreError.TheVariants as store_error

-- one more read
pub reads_more : (first k now then : ℕ) → (first + k ≤ now) ⊎ (2 ^ 64 - 1 ≤ now) → then ≡ counted true now → (first + (k + 1) ≤ then) ⊎ (2 ^ 64 - 1 ≤ then)
reads_more first k now then (inl some) is = elim (cases_lt now (2 ^ 64 - 1)) [
  | inl below ↦ inl (grind arith)
  | inr most ↦ inr (grind arith)
]
reads_more first k now then (inr most) is = inr (grind arith)

-- no more than one
pub reads_within : (first k now then : ℕ) → now ≤ first + k → then ≡ counted true now → then ≤ first + (k + 1)
reads_within first k now then few is = elim (cases_lt now (2 ^ 64 - 1)) [
  | inl below ↦ grind arith
  | inr most ↦ grind arith
]

-- a read that did not fail
pub none_failed : (failed : Bool) (first now then : ℕ) → now ≡ first → then ≡ counted failed now → failed ≡ false → then ≡ first
none_failed true first now then same is none = cc
none_failed false first now then same is none = is ∙ same

pub failed_unless : (kind : ErrorKind) → (kind ≡ Interrupted → ⊥) → is_failure kind ≡ true
failed_unless Interrupted other = absurd (other refl)
failed_unless _ other = refl

pub unfailed_if : (kind : ErrorKind) → kind ≡ Interrupted → is_failure kind ≡ false
unfailed_if kind is = ap is_failure is

-- a read that failed
pub one_failed : (failed : Bool) (first now then : ℕ) → now ≡ first → then ≡ counted failed now → failed ≡ true → IsCounted first then
one_failed true first now then same is fails = elim (cases_lt now (2 ^ 64 - 1)) [
  | inl below ↦ inl (grind arith)
  | inr most ↦ inr (grind arith)
]
one_failed false first now then same is fails = cc

-- what is so wherever a file fails
pub if_told : (error : StoreError) (fact : Type 0) → fact → if_failed error fact
if_told store_error.Failed fact is = is
if_told store_error.NoMemory fact is = tt

-- all the turns there may be were reads
pub all_turns : (first most k now : ℕ) → most ≤ k → (first + k ≤ now) ⊎ (2 ^ 64 - 1 ≤ now) → (first + most ≤ now) ⊎ (2 ^ 64 - 1 ≤ now)
all_turns first most k now end (inl some) = inl (grind arith)
all_turns first most k now end (inr all) = inr all

-- what came before, and what one more read gave
consumes_more : (old mid new : Option (List ℕ)) (bytes more : List ℕ) → Consumes old mid bytes → Consumes mid new more → Consumes old new (bytes ++ more)
consumes_more None mid new bytes more gave gives = tt
consumes_more (Some xs) None new bytes more gave gives = absurd gave
consumes_more (Some xs) (Some ys) None bytes more gave gives = absurd gives
consumes_more (Some xs) (Some ys) (Some zs) bytes more gave gives = gave ∙ (ap (λ l. bytes ++ l) gives ∙ sym (append_assoc bytes more zs))

-- a read gave the first `n` bytes of a buffer, which were added
pub gave_more : (old mid new : Option (List ℕ)) (bytes now buf rest : List ℕ) (n : ℕ) → Consumes old mid bytes → Consumes mid new (take n buf) → n ≤ length buf → now ≡ bytes ++ take n (buf ++ rest) → Consumes old new now
gave_more old mid new bytes now buf rest n gave gives few is =
    rw is (rw (take-append-le n buf rest few) (consumes_more old mid new bytes (take n buf) gave gives))

-- a read gave none
pub gave_same : (old mid new : Option (List ℕ)) (bytes : List ℕ) → Consumes old mid bytes → Keeps mid new → Consumes old new bytes
gave_same None mid new bytes gave keeps = tt
gave_same (Some xs) None new bytes gave keeps = absurd gave
gave_same (Some xs) (Some ys) None bytes gave keeps = absurd keeps
gave_same (Some xs) (Some ys) (Some zs) bytes gave keeps = rw keeps gave

-- the bytes that were given are the first
first_bytes : (all : List ℕ) (new : Option (List ℕ)) (bytes : List ℕ) (most : ℕ) → Consumes (Some all) new bytes → length bytes ≤ most → (length bytes < most → IsAtEnd new) → bytes ≡ take most all
first_bytes all None bytes most gave few end = absurd gave
first_bytes all (Some rest) bytes most gave few end = elim (cases_lt (length bytes) most) [
  | inl below ↦ rw gave (rw (end below) (rw (append-nil bytes) (sym (take_all most bytes few))))
  | inr above ↦ rw gave (sym (take_at bytes rest most (grind arith)))
]

first_of : (known : Option Known) (path : List ℕ) (left new : Option (List ℕ)) (most : ℕ) (bytes : List ℕ) → IsOpened known path left → Consumes left new bytes → length bytes ≤ most → (length bytes < most → IsAtEnd new) → IsFirst known path most bytes
first_of None path left new most bytes opened gave few end = tt
first_of (Some files) path left new most bytes (all, has, is) gave few end =
    (all, has, first_bytes all new bytes most (subst (λ l. Consumes l new bytes) is gave) few end)

-- what is read of a file that was opened is its first bytes
pub firsts : {V E : Type 0} (items : V → List ℕ) (known : Option Known) (path : List ℕ) (left new : Option (List ℕ)) (most : ℕ) (r : Result V E) → IsOpened known path left → IfOk r (λ v. Consumes left new (items v)) → IfOk r (λ v. length (items v) ≤ most) → IfOk r (λ v. length (items v) < most → IsAtEnd new) → IfOk r (λ v. IsFirst known path most (items v))
firsts items known path left new most (Ok v) opened gave few end = first_of known path left new most (items v) opened gave few end
firsts items known path left new most (Err e) opened gave few end = tt

-- the counts where the reading began are those before the opening
pub unread_since : {V : Type 0} (r : Result V Error) (most reads failures mid_reads mid_failures now_reads now_failures : ℕ) → mid_reads ≡ reads → mid_failures ≡ failures → IfErr r (λ e. if_failed (store_error_of (error_kind e)) (IsUnread most (source None mid_reads mid_failures) (source None now_reads now_failures))) → IfErr r (λ e. if_failed (store_error_of (error_kind e)) (IsUnread most (source None reads failures) (source None now_reads now_failures)))
unread_since r most reads failures mid_reads mid_failures now_reads now_failures same_reads same_failures is =
    subst (λ n. IfErr r (λ e. if_failed (store_error_of (error_kind e)) (IsUnread most (source None n failures) (source None now_reads now_failures)))) same_reads (subst (λ n. IfErr r (λ e. if_failed (store_error_of (error_kind e)) (IsUnread most (source None mid_reads n) (source None now_reads now_failures)))) same_failures is)

-- what is so wherever a file fails, whatever came of it
pub unread_if : {V : Type 0} (r : Result V Error) (fact : Type 0) → fact → IfErr r (λ e. if_failed (store_error_of (error_kind e)) fact)
unread_if (Ok v) fact is = tt
unread_if (Err e) fact is = if_told _ fact is

-- want of memory says nothing of the reads
pub told_if_full : {V : Type 0} (r : Result V Error) (fact : Type 0) → IsErrAnd r (λ e. error_kind e ≡ OutOfMemory) → IfErr r (λ e. if_failed (store_error_of (error_kind e)) fact)
told_if_full (Ok v) fact full = tt
told_if_full (Err e) fact full = rw full tt

-- no more turns than there may be
pub few_turns : (first k most now : ℕ) → now ≤ first + k → k ≤ most → now ≤ first + most
few_turns first k most now few some = omega (arith, few, some)

-- one more read, where there may be one
pub one_within : (first k most now then : ℕ) → now ≤ first + k → k < most → then ≡ counted true now → then ≤ first + most
one_within first k most now then few some is = few_turns first (k + 1) most then (reads_within first k now then few is) (omega (arith, some))

-- there is no room only if there are enough bytes
pub enough : (most len room count : ℕ) → room ≡ min (most - len) 4096 → len ≡ count → room ≡ 0 → count < most → ⊥
enough most len room count is counts none some = omega (arith, is, counts, none, some)

-- a read at the end gave none
pub gave_none : (r : Result ℕ Error) (old mid new : Option (List ℕ)) (bytes buf : List ℕ) → r ≡ Ok 0 → Consumes old mid bytes → ReadConsumes mid new r buf → Consumes old new bytes
gave_none r old mid new bytes buf is gave gives =
    subst (λ l. Consumes old new l) (append-nil bytes) (consumes_more old mid new bytes [] gave (rw is at gives).0)

-- a read that gave bytes did not fail
pub unfailed : (r : Result ℕ Error) (n now then : ℕ) → r ≡ Ok n → then ≡ counted (has_failed r) now → then ≡ now
unfailed r n now then gave is = rw gave at is

-- a part of the chunk has room where any was asked for
pub some_room : (room : ℕ) (chunk buf : List ℕ) → length buf ≡ length (take room chunk) → length chunk ≡ 4096 → (room ≡ 0 → ⊥) → 0 < length buf
some_room room chunk buf bufs whole some = omega (arith, bufs, length-take room chunk, whole, some)

-- what was added had room
pub room_kept : (now old buf rest chunk : List ℕ) (n room most len : ℕ) → now ≡ old ++ take n (buf ++ rest) → n ≤ length buf → length buf ≡ length (take room chunk) → room ≡ min (most - len) 4096 → len ≡ length old → length old ≤ most → length now ≤ most
room_kept now old buf rest chunk n room most len is some bufs rooms counts few =
    omega (arith, ap length is, length-append old (take n (buf ++ rest)), length-take n (buf ++ rest), length-take room chunk, some, bufs, rooms, counts, few)

-- and there is no more
pub none_left : (r : Result ℕ Error) (old new : Option (List ℕ)) (buf : List ℕ) → r ≡ Ok 0 → ReadConsumes old new r buf → 0 < length buf → IsAtEnd new
none_left r old new buf is gives some = (rw is at gives).1 refl some

-- before any read
pub gave_nothing : (old : Option (List ℕ)) (bytes : List ℕ) → bytes ≡ [] → Consumes old old bytes
gave_nothing None bytes none = tt
gave_nothing (Some xs) bytes none = rw none refl
