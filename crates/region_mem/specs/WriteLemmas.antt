-- What a write of a byte changes.
use Rattle.std.proofs.Common.{◌≡◌, ℕ, suc, ◌+◌, ◌-◌, ◌<◌, ◌≤◌, Bool, true, false, not, cond, List, [], ◌∷◌, length, Some, set, get_or, drop, arith, ap, sym, ◌∙◌, refl}
use Rattle.std.specs.List.{position, position_or_len}
use Rattle.std.proofs.lemmas.Grind.{common_steps}
use Rattle.std.proofs.lemmas.List.Sums.{passes_at_first}
use Rattle.std.specs.Prelude.{IsTrue}
use Rattle.std.proofs.lemmas.List.{drop_all, drop_more}
use Rattle.region_mem.specs.Areas.{Area, holds, with_byte, with_bytes}

-- the area with this byte at an address
abbrev pub written : ℕ → ℕ → Area → Area
written address byte area = record area { bytes = set area.bytes (address - area.first) byte }

pub suc_first : (n : ℕ) → 1 + n ≡ suc n
suc_first n = omega arith

with_byte_step : (address byte : ℕ) (area : Area) (areas : List Area) (d : Area) (b : Bool) (n : ℕ) →
    (n < length areas → with_byte address byte areas ≡ set areas n (written address byte (get_or areas n d))) →
    cond (not b) (1 + n) 0 < suc (length areas) →
    cond b (written address byte area ∷ areas) (area ∷ with_byte address byte areas) ≡ set (area ∷ areas) (cond (not b) (1 + n) 0) (written address byte (get_or (area ∷ areas) (cond (not b) (1 + n) 0) d))
with_byte_step address byte area areas d true n rest below = refl
with_byte_step address byte area areas d false n rest below =
    let here : n < length areas = omega arith in
    rw suc_first (ap (λ xs. area ∷ xs) (rest here))

-- The first area that holds the address takes the byte.
pub with_byte_first : (address byte : ℕ) (areas : List Area) (d : Area) → position_or_len (holds address) areas < length areas →
    with_byte address byte areas ≡ set areas (position_or_len (holds address) areas) (written address byte (get_or areas (position_or_len (holds address) areas) d))
unfolding with_byte
with_byte_first address byte [] d below = absurd (omega arith)
with_byte_first address byte (area ∷ areas) d below =
    with_byte_step address byte area areas d (holds address area) (position_or_len (holds address) areas) (with_byte_first address byte areas d) below

with_byte_past : (address byte : ℕ) (area : Area) (areas : List Area) (b : Bool) (n : ℕ) →
    (length areas ≤ n → with_byte address byte areas ≡ areas) → suc (length areas) ≤ cond (not b) (1 + n) 0 →
    cond b (written address byte area ∷ areas) (area ∷ with_byte address byte areas) ≡ (area ∷ areas)
with_byte_past address byte area areas true n rest past = absurd (omega arith)
with_byte_past address byte area areas false n rest past =
    let there : length areas ≤ n = omega arith in ap (λ xs. area ∷ xs) (rest there)

-- Where none holds it nothing changes.
pub with_byte_none : (address byte : ℕ) (areas : List Area) → length areas ≤ position_or_len (holds address) areas → with_byte address byte areas ≡ areas
unfolding with_byte
with_byte_none address byte [] past = refl
with_byte_none address byte (area ∷ areas) past =
    with_byte_past address byte area areas (holds address area) (position_or_len (holds address) areas) (with_byte_none address byte areas) past

-- The area at the first place that holds the address holds it.
pub holds_first : (address : ℕ) (areas : List Area) (i : ℕ) (d : Area) → position (holds address) areas ≡ Some i → IsTrue (holds address (get_or areas i d))
holds_first address areas i d found = grind (arith, common_steps, passes_at_first (holds address) areas d)

-- Bytes are written one after the other.
pub bytes_begin : (address : ℕ) (bytes : List ℕ) (areas : List Area) → with_bytes (address + 0) (drop 0 bytes) areas ≡ with_bytes address bytes areas
bytes_begin address bytes areas =
    let start : address + 0 ≡ address = omega arith in
    ap (λ (at : ℕ). with_bytes at bytes areas) start

pub bytes_more : (address i : ℕ) (bytes : List ℕ) (areas now : List Area) (d : ℕ) → i < length bytes → now ≡ with_byte (address + i) (get_or bytes i d) areas →
    with_bytes (address + (i + 1)) (drop (i + 1) bytes) now ≡ with_bytes (address + i) (drop i bytes) areas
unfolding with_bytes
bytes_more address i bytes areas now d lt e =
    let next : address + i + 1 ≡ address + (i + 1) = omega arith in
    ap (λ (at : ℕ). with_bytes at (drop (i + 1) bytes) now) (sym next)
    ∙ ap (with_bytes (address + i + 1) (drop (i + 1) bytes)) e
    ∙ ap (λ (bs : List ℕ). with_bytes (address + i) bs areas) (sym (drop_more bytes i d lt))

pub bytes_end : (address i : ℕ) (bytes : List ℕ) (areas : List Area) → length bytes ≤ i → with_bytes (address + i) (drop i bytes) areas ≡ areas
unfolding with_bytes
bytes_end address i bytes areas le = rw (drop_all i bytes le) refl
