-- Place by place.
use Rattle.std.proofs.Common.{◌≡◌, ℕ, ◌+◌, ◌<◌, List, length, get_or, drop, arith, rules}
use Rattle.std.specs.List.{AllByRecursion}
use Rattle.std.proofs.lemmas.List.{drop_more, drop_all}
use Rattle.region_mem.specs.Laws.{BringsBytes}
use Rattle.region_mem.proofs.laws.args_bring_bytes.Goals as goal

one_more : {X : Type 0} (P : X → Type 0) (xs : List X) (k : ℕ) (x : X) → k < length xs → P (get_or xs k x) → AllByRecursion P (drop (k + 1) xs) → AllByRecursion P (drop k xs)
one_more P xs k x lt here rest = rw (drop_more xs k x lt) (here, rest)

pub returns : goal.returns
returns g c =
    let eight : length c.args.args.now.places ≡ 8 = search rules in
    one_more BringsBytes c.args.args.now.places 0 _ (omega arith) c.brings_bytes.ensures
    (one_more BringsBytes c.args.args.now.places 1 _ (omega arith) c.brings_bytes-2.ensures
    (one_more BringsBytes c.args.args.now.places 2 _ (omega arith) c.brings_bytes-3.ensures
    (one_more BringsBytes c.args.args.now.places 3 _ (omega arith) c.brings_bytes-4.ensures
    (one_more BringsBytes c.args.args.now.places 4 _ (omega arith) c.brings_bytes-5.ensures
    (one_more BringsBytes c.args.args.now.places 5 _ (omega arith) c.brings_bytes-6.ensures
    (one_more BringsBytes c.args.args.now.places 6 _ (omega arith) c.brings_bytes-7.ensures
    (one_more BringsBytes c.args.args.now.places 7 _ (omega arith) c.brings_bytes-8.ensures
    (rw (drop_all 8 c.args.args.now.places (omega arith)) tt))))))))
