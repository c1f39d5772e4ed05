-- The reading of a loop, one word at a time.
use Rattle.std.proofs.Common.{◌≡◌, ◌<◌, ◌≤◌, ◌+◌, ◌-◌, ◌/◌, ℕ, zero, suc, arith, refl, false, List, Some, None, Ok, Err}
use Rattle.std.specs.Option.{option_and_then}
use Rattle.elf_image.specs.Image.{ImageView}
use Rattle.region_mem.specs.declared.parameter.Param.{Param}
use Rattle.cert_maker.specs.declared.loops.Loop.{Loop}
use Rattle.cert_maker.specs.declared.loops.Reading.{Reading}
use Rattle.cert_maker.specs.declared.loops.Reading.TheVariants.{Works, Moves, Back, Through}
use Rattle.cert_maker.specs.Loops.{insn_at, next_of, is_through, then_read, loop_from}

module _ (image : ImageView) (params : List Param) (start : ℕ) where
  behind : (n pc : ℕ) (r next : Reading) → is_through next ≡ false
      → then_read start pc (Some next) (λ q. loop_from image params start n (pc + 4) q) ≡ loop_from image params start n (pc + 4) next
  behind n pc r (Works loop) e = refl
  behind n pc r (Moves loop step left) e = refl
  behind n pc r (Back loop) e = refl
  behind n pc r (Through loop) e = cc

  pub read_more : (n pc : ℕ) (r next : Reading) → n < 805306368 → option_and_then (next_of params start pc r) (insn_at pc image) ≡ Some next
      → is_through next ≡ false
      → loop_from image params start (805306368 - n) pc r ≡ loop_from image params start (805306368 - (n + 1)) (pc + 4) next
  unfolding loop_from
  read_more n pc r next l e going =
      let more : 805306368 - n ≡ suc (805306368 - (n + 1)) = omega (arith, l) in
      rw more (rw e (behind (805306368 - (n + 1)) pc r next going))

  pub read_through : (n pc : ℕ) (r : Reading) (loop : Loop) → n < 805306368 → option_and_then (next_of params start pc r) (insn_at pc image) ≡ Some (Through loop)
      → loop_from image params start (805306368 - n) pc r ≡ Ok (loop, (pc - start) / 4 + 1)
  unfolding loop_from
  read_through n pc r loop l e =
      let more : 805306368 - n ≡ suc (805306368 - (n + 1)) = omega (arith, l) in
      rw more (rw e refl)

  pub read_refused : (n pc : ℕ) (r : Reading) → n < 805306368 → option_and_then (next_of params start pc r) (insn_at pc image) ≡ None
      → loop_from image params start (805306368 - n) pc r ≡ Err pc
  unfolding loop_from
  read_refused n pc r l e =
      let more : 805306368 - n ≡ suc (805306368 - (n + 1)) = omega (arith, l) in
      rw more (rw e refl)

  pub read_none : (n pc : ℕ) (r : Reading) → 805306368 ≤ n → loop_from image params start (805306368 - n) pc r ≡ Err pc
  unfolding loop_from
  read_none n pc r l =
      let none : 805306368 - n ≡ zero = omega (arith, l) in
      rw none refl
