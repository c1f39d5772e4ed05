-- What is known where a block begins is true of the hart there, where its orders split atoms.
use Rattle.std.proofs.Common.{◌≡◌, ◌<◌, ◌≤◌, ◌+◌, ◌-◌, ◌^◌, ℕ, zero, suc, Bool, true, false, arith, refl, sym, ap, ◌∙◌, subst, length, List, [], ◌∷◌, ◌++◌, get_or, drop, Some}
use Rattle.std.specs.Prelude.{if◌then◌else◌, ◌==◌, nat_le}
use Rattle.std.specs.List.{AllByRecursion, slice_get}
use Rattle.std.proofs.lemmas.List.{drop_more, drop_all}
use Rattle.linear_facts.specs.declared.ranges.Range.{Range}
use Rattle.linear_facts.specs.declared.ranges.Atom.{Atom}
use Rattle.linear_facts.specs.declared.ranges.Split.{Split}
use Rattle.linear_facts.specs.Forms.{Linear}
use Rattle.linear_facts.specs.Ranges.{AgreesWith, IsIn, range_at}
use Rattle.linear_facts.specs.LocalityLemmas.{forms-stay, agree-below}
use Rattle.region_mem.specs.declared.parameter.Param.{Param}
use Rattle.vreg_groups.specs.declared.vector_length.Vconfig.{Vconfig}
use Rattle.scalar_core.specs.Hart.{Hart}
use Rattle.cert_note.specs.declared.values.RegisterFact.{RegisterFact}
use Rattle.cert_note.specs.declared.values.Block.{Block}
use Rattle.cert_note.specs.declared.values.OrderFact.{OrderFact}
use Rattle.cert_note.specs.Certificate.{IsBlock, IsOrderFact, AllFrom, after_order, after_block}
use Rattle.abs_domain.specs.Numbers.{plain, table_with, with_split}
use Rattle.abs_domain.specs.Described.{LiesIn, Means}
use Rattle.abs_domain.specs.Holds.{number_of, AreSplitsBelow}
use Rattle.abs_domain.specs.Starts.{stated_range, stated_form, passed_range, start_atoms, numbers_by, start_numbers}
use Rattle.abs_domain.specs.BlockLaws.{number_in, OrderIsTrue, HoldsWith, BlockNumbersHold}
use Rattle.abs_domain.specs.Orders.{with_order, with_orders}
use Rattle.abs_domain.specs.AtomSplitLemmas.{range_stays, split_agrees, split_count, splits_stay}
use Rattle.abs_domain.specs.StateLemmas.{atoms_grow, length_push, number_here, number_there, range_old, splits_grow, with_number}
use Rattle.abs_domain.specs.StartFormLemmas.{found_is, greater_below, lesser_below}
use Rattle.abs_domain.specs.StartNumberLemmas.{by_holds, atoms_many, starts_agree, starts_split, stated_means, stated_lies, number_below, number_small, are_stated, all_passed_in, IsStated, atom_of_register}

-- ---- order facts

-- atoms that agree with numbers, grown from others
record Grown (atoms new : List Atom) (v : ℕ → ℕ) : Type 0 where
  numbers : ℕ → ℕ
  same : (a : ℕ) → a < length atoms → numbers a ≡ v a
  grows : length atoms ≤ length new
  ranges : (a : ℕ) → a < length atoms → range_at (table_with new) a ≡ range_at (table_with atoms) a
  agrees : AgreesWith (table_with new) numbers
  splits : AreSplitsBelow new

unsplit : (atoms : List Atom) (v : ℕ → ℕ) → AgreesWith (table_with atoms) v → AreSplitsBelow atoms → Grown atoms atoms v
unsplit atoms v agrees splits = record { numbers = v; same = λ a l. refl; grows = omega arith; ranges = λ a l. refl; agrees = agrees; splits = splits }

-- what is between two numbers lies between the ends of their ranges
between_lies : (s r : Range) (x y : ℕ) → IsIn s x → IsIn r y → x < 2 ^ 32 → s.hi < 2 ^ 32 → y ≤ x → LiesIn (record { lo = s.lo - r.hi; hi = s.hi - r.lo }) (x - y)
between_lies s r x y p q small fits le = record { low = omega (arith, p.0, q.1); high = omega (arith, p.1, q.0, le); fits = omega (arith, fits) }

order_grown : (atoms : List Atom) (v : ℕ → ℕ) (o : OrderFact) → AgreesWith (table_with atoms) v → AreSplitsBelow atoms
    → o.greater < length atoms → o.lesser < length atoms → (range_at (table_with atoms) o.greater).hi < 2 ^ 32 → v o.lesser ≤ v o.greater
    → Grown atoms (with_order atoms o) v
unfolding with_order
order_grown atoms v o agrees splits greater lesser fits order =
    by_test (nat_le (range_at (table_with atoms) o.lesser).lo (range_at (table_with atoms) o.greater).hi)
  where
    s : Range
    s = range_at (table_with atoms) o.greater

    r : Range
    r = range_at (table_with atoms) o.lesser

    between : Range
    between = record { lo = s.lo - r.hi; hi = s.hi - r.lo }

    parts : Split
    parts = record { first = o.lesser; second = length atoms }

    new : List Atom
    new = atoms ++ plain between ∷ []

    n : ℕ
    n = length atoms

    x : ℕ
    x = v o.greater - v o.lesser

    w : ℕ → ℕ
    w = with_number v n x

    longer : length new ≡ n + 1
    longer = length_push atoms (plain between)

    lies : LiesIn between x
    lies = between_lies s r (v o.greater) (v o.lesser) (agrees.in_range o.greater) (agrees.in_range o.lesser) (agrees.fits o.greater) fits order

    sum : w o.greater ≡ w o.lesser + w n
    sum = rw (number_there v n x o.greater (omega (arith, greater)), number_there v n x o.lesser (omega (arith, lesser)), number_here v n x) (omega (arith, order))

    by_test : (t : Bool) → Grown atoms (if t then with_split o.greater parts new else atoms) v
    by_test false = unsplit atoms v agrees splits
    by_test true =
        record {
          numbers = w;
          same = λ a l. number_there v n x a (omega (arith, l));
          grows = omega (arith, split_count o.greater parts new, longer);
          ranges = λ a l. range_stays new o.greater parts a (omega (arith, greater, longer)) ∙ range_old atoms (plain between) a (omega (arith, l));
          agrees = split_agrees new w o.greater parts (omega (arith, greater, longer)) (atoms_grow atoms v between x agrees splits lies) sum;
          splits = splits_stay new o.greater parts (omega (arith, greater, longer)) (omega (arith, lesser, longer)) (omega (arith, longer))
              (splits_grow atoms between splits);
        }

-- an order that is true, of registers and vl
record IsOrder (v : ℕ → ℕ) (o : OrderFact) : Type 0 where
  greater : o.greater < 33
  lesser : o.lesser < 33
  order : v o.lesser ≤ v o.greater

are_orders : (facts : List RegisterFact) (v : ℕ → ℕ) (from : ℕ) (orders : List OrderFact) → AllFrom (IsOrderFact facts) after_order from orders
    → AllByRecursion (OrderIsTrue v) orders → AllByRecursion (IsOrder v) orders
are_orders facts v from [] is all = tt
are_orders facts v from (o ∷ os) is all = (
  record { greater = greater_below facts from o is.0; lesser = lesser_below facts from o is.0; order = all.0 },
  are_orders facts v (after_order o) os is.1 all.1,
)

orders_same : (v w : ℕ → ℕ) (orders : List OrderFact) → ((a : ℕ) → a < 33 → w a ≡ v a) → AllByRecursion (IsOrder v) orders → AllByRecursion (IsOrder w) orders
orders_same v w [] same all = tt
orders_same v w (o ∷ os) same all = (
  record { greater = all.0.greater; lesser = all.0.lesser; order = omega (arith, all.0.order, same o.greater all.0.greater, same o.lesser all.0.lesser) },
  orders_same v w os same all.1,
)

orders_grown : (orders : List OrderFact) (atoms : List Atom) (v : ℕ → ℕ) → AgreesWith (table_with atoms) v → AreSplitsBelow atoms → 33 ≤ length atoms
    → ((a : ℕ) → a < 33 → (range_at (table_with atoms) a).hi < 2 ^ 32) → AllByRecursion (IsOrder v) orders → Grown atoms (with_orders atoms orders) v
unfolding with_orders
orders_grown [] atoms v agrees splits count fits all = unsplit atoms v agrees splits
orders_grown (o ∷ os) atoms v agrees splits count fits all =
    let one = order_grown atoms v o agrees splits (omega (arith, all.0.greater, count)) (omega (arith, all.0.lesser, count)) (fits o.greater all.0.greater) all.0.order in
    let rest = orders_grown os (with_order atoms o) one.numbers one.agrees one.splits (omega (arith, one.grows, count))
    (λ a l. subst (λ (r : Range). r.hi < 2 ^ 32) (sym (one.ranges a (omega (arith, l, count)))) (fits a l))
    (orders_same v one.numbers os (λ a l. one.same a (omega (arith, l, count))) all.1) in
    record {
      numbers = rest.numbers;
      same = λ a l. rest.same a (omega (arith, l, one.grows)) ∙ one.same a l;
      grows = omega (arith, one.grows, rest.grows);
      ranges = λ a l. rest.ranges a (omega (arith, l, one.grows)) ∙ one.ranges a l;
      agrees = rest.agrees;
      splits = rest.splits;
    }

-- a form of the atoms that there were means the same
means_stay : (n m : ℕ) (v w : ℕ → ℕ) (f : Linear) (x : ℕ) → n ≤ m → ((b : ℕ) → b < n → w b ≡ v b) → Means 8 n v f x → Means 8 m w f x
means_stay n m v w f x l same h =
    let is : n + (m - n) ≡ m = omega (arith, l) in
    subst (λ (k : ℕ). Means 8 k w f x) is
    record {
      form = h.form;
      below = forms-stay n (m - n) f h.below;
      number = h.number ∙ agree-below n v w f (λ b k. sym (same b k)) h.below;
    }

module _ (params : List Param) (facts : List RegisterFact) (orders : List OrderFact) (v : ℕ → ℕ) (h : Hart) (config : Vconfig)
    (stated : AllByRecursion (IsStated v) facts) (small : (a : ℕ) → v a < 2 ^ 32) (x0 : v 0 ≡ 0)
    (same : (i : ℕ) → i < 33 → v i ≡ number_of i h config)
    (passed : (place : ℕ) → place < 8 → IsIn (passed_range (slice_get params place)) (v (33 + place)))
    (all : AllByRecursion (IsOrder v) orders) where
  start : AgreesWith (table_with (start_atoms params facts)) v
  start = starts_agree params facts v small (λ a l. (let lies = stated_lies v facts stated small x0 a in (lies.low, lies.high))) passed

  range_is : (a : ℕ) → a < 33 → range_at (table_with (start_atoms params facts)) a ≡ stated_range facts a
  unfolding range_at
  range_is a l = ap (λ (k : Atom). k.range) (atom_of_register params facts a l)

  grown : Grown (start_atoms params facts) (with_orders (start_atoms params facts) orders) v
  grown =
      orders_grown orders (start_atoms params facts) v start (starts_split params facts) (omega (arith, atoms_many params facts))
      (λ a l. subst (λ (r : Range). r.hi < 2 ^ 32) (sym (range_is a l)) (stated_lies v facts stated small x0 a).fits) all

  below : (a : ℕ) → a < 41 → grown.numbers a ≡ v a
  below a l = grown.same a (omega (arith, l, atoms_many params facts))

  ordered : HoldsWith (start_numbers params facts orders) v h config
  unfolding start_numbers numbers_by
  ordered =
      record {
        numbers = grown.numbers;
        same = below;
        grows = omega (arith, grown.grows, atoms_many params facts);
        holds =
            by_holds (with_orders (start_atoms params facts) orders) (stated_form facts) (λ i. Some (stated_range facts i)) grown.numbers h config
            grown.agrees grown.splits
            (λ i l. means_stay 41 (length (with_orders (start_atoms params facts) orders)) v grown.numbers (stated_form facts i) (number_of i h config)
            (omega (arith, grown.grows, atoms_many params facts)) below
            (subst (λ (x : ℕ). Means 8 41 v (stated_form facts i) x) (same i l) (stated_means v facts stated small x0 i l)))
            (λ i l. subst (λ (x : ℕ). LiesIn (stated_range facts i) x) (same i l) (stated_lies v facts stated small x0 i));
      }

pub block_numbers_hold : BlockNumbersHold
block_numbers_hold certificate block address passed h config is e are hart vl facts orders =
    let v = number_in passed h config in
    let block_is = found_is (IsBlock certificate.version certificate.vlen certificate.parameters) after_block (λ (b : Block). b.start == address) 0 certificate.blocks block is.blocks e in
    ordered certificate.parameters block.registers.items block.orders.items v h config
    (are_stated certificate.parameters v 1 block.registers.items block_is.1.registers facts)
    (number_small passed h config hart vl are.fit) hart.x0 (number_below passed h config)
    (all_passed_in certificate.parameters passed h config are)
    (are_orders block.registers.items v 1 block.orders.items block_is.1.orders orders)

-- ---- one order after another

-- what is true of each is true of the one at a place
pub order_at_place : (orders : List OrderFact) (k : ℕ) (d : OrderFact) → AllByRecursion (λ (o : OrderFact). o.greater < 33) orders → k < length orders
    → (get_or orders k d).greater < 33
order_at_place [] k d all l = absurd (omega (arith, l))
order_at_place (o ∷ os) zero d all l = all.0
order_at_place (o ∷ os) (suc k) d all l = order_at_place os k d all.1 (omega (arith, l))

pub orders_more : (atoms : List Atom) (orders : List OrderFact) (i : ℕ) (d : OrderFact) → i < length orders
    → with_orders atoms (drop i orders) ≡ with_orders (with_order atoms (get_or orders i d)) (drop (i + 1) orders)
unfolding with_orders
orders_more atoms orders i d inside = ap (λ l. with_orders atoms l) (drop_more orders i d inside)

pub orders_done : (atoms : List Atom) (orders : List OrderFact) (i : ℕ) → length orders ≤ i → with_orders atoms (drop i orders) ≡ atoms
unfolding with_orders
orders_done atoms orders i done = ap (λ l. with_orders atoms l) (drop_all i orders done)
