-- The edge that is taken, and what an edge that implies a block has shown.
use Rattle.std.proofs.Common.{◌≡◌, ◌<◌, ◌≤◌, ◌+◌, ◌*◌, ◌/◌, ◌||◌, ℕ, Bool, true, false, arith, refl, sym, ap, ◌∙◌, subst, IsTrue, List, [], ◌∷◌, length, find, Option, Some, None, IfSome, Ok, Err}
use Rattle.std.specs.Prelude.{if◌then◌else◌, ◌==◌, ◌&&◌, nat_le}
use Rattle.std.specs.List.{AllByRecursion, list_all, list_any}
use Rattle.std.specs.Option.{option_map_or}
use Rattle.std.proofs.lemmas.Bool.{and_parts}
use Rattle.std.proofs.lemmas.Bool.Decides.{nat_tests}
use Rattle.linear_facts.specs.Forms.{value, substituted}
use Rattle.scalar_core.specs.Arithmetic.{is_taken}
use Rattle.scalar_core.specs.Hart.{reg_of, exit}
use Rattle.machine.specs.Machine.{Machine}
use Rattle.region_mem.specs.declared.parameter.Param.{Param}
use Rattle.vreg_groups.specs.declared.vector_length.Vlen.{Vlen}
use Rattle.vreg_groups.specs.Elements.{element_at}
use Rattle.cert_note.specs.declared.values.Budget.{Budget}
use Rattle.cert_note.specs.declared.values.Equality.{Equality}
use Rattle.cert_note.specs.declared.values.RegisterFact.{RegisterFact}
use Rattle.cert_note.specs.declared.values.VectorFact.{VectorFact}
use Rattle.cert_note.specs.declared.values.Block.{Block}
use Rattle.cert_note.specs.declared.values.OrderFact.{OrderFact}
use Rattle.cert_note.specs.declared.values.Version.{Version}
use Rattle.rv_decode.specs.declared.instructions.Condition.{Condition}
use Rattle.rv_decode.specs.declared.instructions.Condition.TheVariants.{Eq, Ne, Lt, Ge, Ltu, Geu}
use Rattle.linear_facts.specs.Differences.{is_not_less_of}
use Rattle.linear_facts.specs.DifferenceLemmas.{orders-hold}
use Rattle.abs_state.specs.declared.branches.Said.{Said}
use Rattle.cert_note.specs.Certificate.{AllFrom, after_fact, after_order, after_block, IsRegisterFact, IsOrderFact, IsBudgetOf, IsBlock, SaysMore}
use Rattle.abs_domain.specs.declared.why.Why.{Why}
use Rattle.abs_state.specs.declared.state.Way.{Way}
use Rattle.abs_state.specs.declared.state.Way.TheVariants.{To, Unknown, Fork}
use Rattle.abs_domain.specs.Described.{IsNumber}
use Rattle.abs_domain.specs.Numbers.{value_at}
use Rattle.abs_domain.specs.BlockLaws.{FactIsTrue, OrderIsTrue}
use Rattle.abs_domain.specs.Holds.{number_of}
use Rattle.abs_domain.specs.StartNumberLemmas.{number_below as register_below}
use Rattle.abs_state.specs.State.{AbstractView}
use Rattle.abs_domain.specs.Starts.{equality_form}
use Rattle.abs_state.specs.Branches.{EdgeView, plain_edge, edge_by, refined, table_on, value_on}
use Rattle.abs_state.specs.Edges.{shown_or, and_then, Shown, is_interval_shown, is_equality_shown, is_sum_shown, is_vector_shown, are_these, says_order, tells_order, is_order_shown, own_total, next_total, no_budget, says, leads_to, is_vtype_shown, is_paid, is_paid_for, is_same, pays, implies_block, implies_end, implied_by}
use Rattle.abs_state.specs.Held.{Setting, Goes, IsKnown, IsPaid, IsAt, IsTrueOf, AreTrueOf, budget_of, fact_element, number_at, vlenb_in}
use Rattle.abs_transfer.specs.Facts.{elements_in}
use Rattle.abs_state.specs.EdgeLaws.{TakesEdge, EdgesAreTaken, ImpliedFits, ImpliedEnds}
use Rattle.abs_transfer.specs.AddressLemmas.{register_number}
use Rattle.abs_state.specs.PaymentLemmas.{equality_holds, parts_below, counted, covered, SaysMore as MoreSaid, says_more, paid_holds}
use Rattle.abs_domain.specs.StartFormLemmas.{budget_below, second_below, greater_below, lesser_below}
use Rattle.abs_state.proofs.Ways.{IsEdge, plain_is, branch_is}

-- ---- the edge that is taken

refined_by : (taken : Bool) (a : AbstractView) (w : Way) → a.way ≡ w → refined taken a ≡ edge_by taken a w
unfolding refined
refined_by taken a w e = ap (λ (u : Way). edge_by taken a u) e

module _ (e : Setting) (n : ℕ) (a : AbstractView) (m : Machine) (v : ℕ → ℕ) (known : IsKnown e v n a m) where
  number : ℕ → ℕ
  number i = number_of i m.hart m.vectors.config

  from_edge : (taken : Bool) (w : Way) → a.way ≡ w
      → IsEdge (edge_by taken a w) a v (λ i. number_of i m.hart m.vectors.config) m.hart.pc → TakesEdge e n a m
  from_edge taken w is there = record {
    taken = taken;
    edge = there.edge;
    is = refined_by taken a w is ∙ there.is;
    goes = record {
      numbers = v;
      known = subst (λ (s : AbstractView). IsKnown e v n s m) (sym there.state) known;
      atoms = there.atoms;
      each = λ i l. subst (λ (s : AbstractView). IsNumber (length s.numbers.atoms) v (value_on there.edge i) (number_of i m.hart m.vectors.config))
          (sym there.state) (there.each i l);
      target = there.target;
      said = there.said;
    };
  }

  plain_there : (target : Option ℕ) → IfSome target (λ pc. m.hart.pc ≡ pc)
      → IsEdge (Some (plain_edge a target)) a v (λ i. number_of i m.hart m.vectors.config) m.hart.pc
  plain_there target h =
      plain_is a v (λ i. number_of i m.hart m.vectors.config) m.hart.pc known.known.atoms known.known.ranges known.known.each target h

  by_way : (w : Way) → a.way ≡ w → IsAt w m.hart → TakesEdge e n a m
  unfolding edge_by
  by_way (To target) is at = from_edge false (To target) is (plain_there (Some target) at)
  by_way Unknown is at = from_edge false Unknown is (plain_there None tt)
  by_way (Fork condition rs1 rs2 target next) is at =
      let taken = is_taken condition (reg_of rs1 m.hart) (reg_of rs2 m.hart) in
      from_edge taken (Fork condition rs1 rs2 target next) is
      (branch_is a v (λ i. number_of i m.hart m.vectors.config) m.hart.pc known.known.atoms known.known.ranges known.known.each
      condition taken rs1 rs2 (if taken then target else next) (omega (arith, at.0)) (omega (arith, at.1)) at.2
      (ap (λ (x : ℕ). is_taken condition x (number_of rs2 m.hart m.vectors.config)) (register_number rs1 m.hart m.vectors.config at.0)
      ∙ ap (λ (y : ℕ). is_taken condition (reg_of rs1 m.hart) y) (register_number rs2 m.hart m.vectors.config at.1)))

pub edges-are_taken : EdgesAreTaken
edges-are_taken e n a m held = by_way e n a m held.numbers held.known a.way refl held.way

-- ---- what is shown, in its order

shown_true : (why : Why) (b : Bool) → shown_or why b ≡ Ok tt → b ≡ true
shown_true why true e = refl
shown_true why false e = cc

both_shown : (a b : Shown) → and_then a b ≡ Ok tt → (a ≡ Ok tt) × (b ≡ Ok tt)
both_shown (Ok done) b e = (refl, e)
both_shown (Err why) b e = cc

leads : (edge : EdgeView) (address pc : ℕ) → leads_to edge address ≡ true → IfSome edge.target (λ t. pc ≡ t) → pc ≡ address
leads edge address pc e at = by_target edge.target e at
  where
    by_target : (o : Option ℕ) → option_map_or (λ t. t == address) o false ≡ true → IfSome o (λ t. pc ≡ t) → pc ≡ address
    by_target None f g = cc
    by_target (Some t) f g = (let is : t ≡ address = grind (arith, nat_tests) in g ∙ is)

vtype_shown : (known wanted : Option ℕ) (vtype : ℕ) → is_vtype_shown known wanted ≡ true → IfSome known (λ t. vtype ≡ t) → IfSome wanted (λ t. vtype ≡ t)
unfolding is_vtype_shown
vtype_shown known None vtype e h = tt
vtype_shown None (Some w) vtype e h = cc
vtype_shown (Some k) (Some w) vtype e h = (let is : k ≡ w = grind (arith, nat_tests) in h ∙ is)

vector_shown_in : (edge : EdgeView) (wanted : VectorFact) → is_vector_shown edge wanted ≡ true
    → list_any (says (value_on edge 32).range wanted) edge.state.groups ≡ true
unfolding is_vector_shown
vector_shown_in edge wanted e = e

sum_shown_in : (edge : EdgeView) (number : ℕ) (equality : Equality) → is_sum_shown edge number equality ≡ true
    → is_same (substituted edge.state.numbers.forms (equality_form equality)) (value_at edge.state.numbers number).form ≡ true
unfolding is_sum_shown value_on
sum_shown_in edge number equality e = e

order_shown_in : (edge : EdgeView) (order : OrderFact) → is_order_shown edge order ≡ true
    → (nat_le (value_on edge order.lesser).range.hi (value_on edge order.greater).range.lo
    || is_not_less_of (table_on edge) (value_on edge order.greater).form (value_on edge order.lesser).form
    || option_map_or (tells_order order) edge.said false) ≡ true
unfolding is_order_shown
order_shown_in edge order e = e

-- ---- what a branch says of two numbers

-- the two registers of a branch are those of an order
these_are : (number : ℕ → ℕ) (rs1 rs2 lesser greater : ℕ) → are_these rs1 rs2 lesser greater ≡ true → number rs1 ≤ number rs2
    → number lesser ≤ number greater
these_are number rs1 rs2 lesser greater e le =
    let both = and_parts (rs1 == lesser) (rs2 == greater) e in
    let l : rs1 ≡ lesser = grind (arith, nat_tests, both.0) in
    let g : rs2 ≡ greater = grind (arith, nat_tests, both.1) in
    omega (arith, le, ap number l, ap number g)

either_way : (number : ℕ → ℕ) (rs1 rs2 lesser greater : ℕ) → (are_these rs1 rs2 lesser greater || are_these rs2 rs1 lesser greater) ≡ true
    → number rs1 ≡ number rs2 → number lesser ≤ number greater
either_way number rs1 rs2 lesser greater e same = by_test (are_these rs1 rs2 lesser greater) refl e
  where
    by_test : (t : Bool) → are_these rs1 rs2 lesser greater ≡ t → (t || are_these rs2 rs1 lesser greater) ≡ true → number lesser ≤ number greater
    by_test true f g = these_are number rs1 rs2 lesser greater f (omega (arith, same))
    by_test false f g = these_are number rs2 rs1 lesser greater g (omega (arith, same))

said_holds : (number : ℕ → ℕ) (condition : Condition) (taken : Bool) (rs1 rs2 lesser greater : ℕ) → says_order condition taken rs1 rs2 lesser greater ≡ true
    → is_taken condition (number rs1) (number rs2) ≡ taken → number lesser ≤ number greater
unfolding says_order is_taken
said_holds number Eq true rs1 rs2 lesser greater e h = either_way number rs1 rs2 lesser greater e (grind (arith, nat_tests, h))
said_holds number Eq false rs1 rs2 lesser greater e h = cc
said_holds number Ne true rs1 rs2 lesser greater e h = cc
said_holds number Ne false rs1 rs2 lesser greater e h = either_way number rs1 rs2 lesser greater e (grind (arith, nat_tests, h))
said_holds number Lt taken rs1 rs2 lesser greater e h = cc
said_holds number Ge taken rs1 rs2 lesser greater e h = cc
said_holds number Ltu true rs1 rs2 lesser greater e h = these_are number rs1 rs2 lesser greater e (grind (arith, nat_tests, h))
said_holds number Ltu false rs1 rs2 lesser greater e h = these_are number rs2 rs1 lesser greater e (grind (arith, nat_tests, h))
said_holds number Geu true rs1 rs2 lesser greater e h = these_are number rs2 rs1 lesser greater e (grind (arith, nat_tests, h))
said_holds number Geu false rs1 rs2 lesser greater e h = these_are number rs1 rs2 lesser greater e (grind (arith, nat_tests, h))

module _ (e : Setting) (n : ℕ) (edge : EdgeView) (m : Machine) (goes : Goes e n edge m) where
  -- a fact that is shown holds
  fact_holds : (params : List Param) (from : ℕ) (fact : RegisterFact) → IsRegisterFact params from fact → is_interval_shown edge fact ≡ true
      → is_equality_shown edge fact ≡ true → FactIsTrue (number_at e m) fact
  unfolding is_interval_shown is_equality_shown
  fact_holds params from fact is h k =
      let below : fact.number < 33 = number_below (nat_le from fact.number) is.number in
      let both = and_parts _ _ h in
      let lies = (goes.each fact.number below).lies in
      let same = register_below e.passed m.hart m.vectors.config fact.number below in
      record {
        low = (let k : fact.low ≤ (value_on edge fact.number).range.lo = le both.0 in omega (arith, k, lies.low, same));
        high = (let k : (value_on edge fact.number).range.hi ≤ fact.high = le both.1 in omega (arith, k, lies.high, same));
        equality = by_equality fact.equality refl is.says;
      }
    where
      le : {a b : ℕ} → nat_le a b ≡ true → a ≤ b
      le f = grind (arith, nat_tests)

      number_below : (b : Bool) → IsTrue (b && nat_le fact.number 32) → fact.number < 33
      number_below true f = grind (arith, nat_tests)
      number_below false f = cc

      by_equality : (o : Option Equality) → fact.equality ≡ o → SaysMore params fact.low fact.high o
          → IfSome o (λ equality. number_at e m fact.number ≡ value (number_at e m) (equality_form equality))
      by_equality None f g = tt
      by_equality (Some equality) f g =
          register_below e.passed m.hart m.vectors.config fact.number (number_below (nat_le from fact.number) is.number)
          ∙ equality_holds edge.state.numbers goes.numbers (λ i. number_of i m.hart m.vectors.config) e.passed fact.number (equality_form equality)
          goes.known.known.forms goes.known.known.each goes.atoms.fits goes.known.passed
          (parts_below params 1 equality.terms.items g.terms) (number_below (nat_le from fact.number) is.number)
          (sum_shown_in edge fact.number equality (sym (ap (λ (o : Option Equality). equality_test o) f) ∙ k))
        where
          equality_test : Option Equality → Bool
          equality_test o = option_map_or (is_sum_shown edge fact.number) o true

  facts_hold : (params : List Param) (from : ℕ) (facts : List RegisterFact) → AllFrom (IsRegisterFact params) after_fact from facts
      → list_all (is_interval_shown edge) facts ≡ true → list_all (is_equality_shown edge) facts ≡ true → AllByRecursion (FactIsTrue (number_at e m)) facts
  facts_hold params from [] is h k = tt
  facts_hold params from (x ∷ xs) is h k =
      let p = and_parts (is_interval_shown edge x) (list_all (is_interval_shown edge) xs) h in
      let q = and_parts (is_equality_shown edge x) (list_all (is_equality_shown edge) xs) k in
      (fact_holds params from x is.0 p.0 q.0, facts_hold params (after_fact x) xs is.1 p.1 q.1)

  -- a fact on vector registers that another one says is true where that one is
  more_is_true : (wanted known : VectorFact) → MoreSaid (value_on edge 32).range wanted known
      → IsTrueOf (vlenb_in e) m.vectors.config.vl m.vectors.registers known → IsTrueOf (vlenb_in e) m.vectors.config.vl m.vectors.registers wanted
  more_is_true wanted known s t = λ i l.
      let r = (value_on edge 32).range in
      let vl = m.vectors.config.vl in
      let count : counted vl wanted.count ≤ counted vl known.count = covered r vl known.count wanted.count (goes.each 32 (omega arith)).lies s.covers in
      let elements : elements_in (vlenb_in e) known ≡ elements_in (vlenb_in e) wanted =
      ap (λ (k : ℕ). k * vlenb_in e / (known.width / 8)) s.registers ∙ ap (λ (w : ℕ). wanted.registers * vlenb_in e / (w / 8)) s.width in
      let same : fact_element (vlenb_in e) m.vectors.registers known i ≡ fact_element (vlenb_in e) m.vectors.registers wanted i =
      ap (λ (w : ℕ). element_at (w / 8) (known.register * vlenb_in e) m.vectors.registers i) s.width
      ∙ ap (λ (k : ℕ). element_at (wanted.width / 8) (k * vlenb_in e) m.vectors.registers i) s.register in
      let held = t i (omega (arith, l, count, elements)) in
      (omega (arith, s.low, held.0, same), omega (arith, s.high, held.1, same))

  vector_holds : (wanted : VectorFact) (groups : List VectorFact) → list_any (says (value_on edge 32).range wanted) groups ≡ true
      → AreTrueOf (vlenb_in e) m.vectors groups → IsTrueOf (vlenb_in e) m.vectors.config.vl m.vectors.registers wanted
  vector_holds wanted [] h k = cc
  vector_holds wanted (x ∷ xs) h k = by_test (says (value_on edge 32).range wanted x) refl (vector_holds wanted xs) h
    where
      by_test : (t : Bool) → says (value_on edge 32).range wanted x ≡ t
          → (list_any (says (value_on edge 32).range wanted) xs ≡ true → AreTrueOf (vlenb_in e) m.vectors xs
          → IsTrueOf (vlenb_in e) m.vectors.config.vl m.vectors.registers wanted)
          → (t || list_any (says (value_on edge 32).range wanted) xs) ≡ true
          → IsTrueOf (vlenb_in e) m.vectors.config.vl m.vectors.registers wanted
      by_test true f rest g = more_is_true wanted x (says_more (value_on edge 32).range wanted x f) k.0
      by_test false f rest g = rest g k.1

  vectors_hold : (facts : List VectorFact) → list_all (is_vector_shown edge) facts ≡ true → AreTrueOf (vlenb_in e) m.vectors facts
  vectors_hold [] h = tt
  vectors_hold (x ∷ xs) h =
      let p = and_parts (is_vector_shown edge x) (list_all (is_vector_shown edge) xs) h in
      (vector_holds x edge.state.groups (vector_shown_in edge x p.0) goes.known.groups, vectors_hold xs p.1)

  -- an order that is shown holds
  order_holds : (order : OrderFact) → order.lesser < 33 → order.greater < 33 → is_order_shown edge order ≡ true → OrderIsTrue (number_at e m) order
  order_holds order l g h =
      omega (
        arith,
        by_ranges (nat_le (value_on edge order.lesser).range.hi (value_on edge order.greater).range.lo) refl (order_shown_in edge order h),
        register_below e.passed m.hart m.vectors.config order.lesser l,
        register_below e.passed m.hart m.vectors.config order.greater g,
      )
    where
      number : ℕ → ℕ
      number i = number_of i m.hart m.vectors.config

      lesser : IsNumber (length edge.state.numbers.atoms) goes.numbers (value_on edge order.lesser) (number order.lesser)
      lesser = goes.each order.lesser l

      greater : IsNumber (length edge.state.numbers.atoms) goes.numbers (value_on edge order.greater) (number order.greater)
      greater = goes.each order.greater g

      by_branch : (o : Option Said) → IfSome o (λ s. is_taken s.condition (number s.rs1) (number s.rs2) ≡ s.taken)
          → option_map_or (tells_order order) o false ≡ true → number order.lesser ≤ number order.greater
      by_branch None said f = cc
      by_branch (Some s) said f = said_holds number s.condition s.taken s.rs1 s.rs2 order.lesser order.greater f said

      by_forms : (t : Bool) → is_not_less_of (table_on edge) (value_on edge order.greater).form (value_on edge order.lesser).form ≡ t
          → (t || option_map_or (tells_order order) edge.said false) ≡ true → number order.lesser ≤ number order.greater
      by_forms true f o =
          omega (
            arith,
            orders-hold (table_on edge) goes.numbers (value_on edge order.greater).form (value_on edge order.lesser).form goes.atoms greater.means.form lesser.means.form f,
            lesser.means.number,
            greater.means.number,
          )
      by_forms false f o = by_branch edge.said goes.said o

      by_ranges : (t : Bool) → nat_le (value_on edge order.lesser).range.hi (value_on edge order.greater).range.lo ≡ t
          → (t || is_not_less_of (table_on edge) (value_on edge order.greater).form (value_on edge order.lesser).form
          || option_map_or (tells_order order) edge.said false) ≡ true → number order.lesser ≤ number order.greater
      by_ranges true f o =
          let le : (value_on edge order.lesser).range.hi ≤ (value_on edge order.greater).range.lo = grind (arith, nat_tests, f) in
          omega (arith, le, lesser.lies.high, greater.lies.low)
      by_ranges false f o = by_forms (is_not_less_of (table_on edge) (value_on edge order.greater).form (value_on edge order.lesser).form) refl o

  orders_hold : (facts : List RegisterFact) (from : ℕ) (orders : List OrderFact) → AllFrom (IsOrderFact facts) after_order from orders
      → list_all (is_order_shown edge) orders ≡ true → AllByRecursion (OrderIsTrue (number_at e m)) orders
  orders_hold facts from [] is h = tt
  orders_hold facts from (o ∷ os) is h =
      let p = and_parts (is_order_shown edge o) (list_all (is_order_shown edge) os) h in
      (order_holds o (lesser_below facts from o is.0) (greater_below facts from o is.0) p.0, orders_hold facts (after_order o) os is.1 p.1)

  -- what was the budget pays for the instructions taken and for another budget
  own_pays : (own next : Budget) → next.register < 32 → next.second_register < 32 → IsPaid goes.numbers n (Some own) edge.state
      → is_paid (table_on edge) (own_total edge own) (next_total edge next) ≡ true → budget_of next m.hart + edge.state.words ≤ n
  own_pays own next k l paid h =
      let first = number_of next.register m.hart m.vectors.config in
      let second = number_of next.second_register m.hart m.vectors.config in
      let all = paid_holds (table_on edge) (length edge.state.numbers.atoms) goes.numbers (own_total edge own) (next_total edge next)
      paid.0 paid.1 first second goes.atoms paid.3 paid.4 (goes.each next.register (omega (arith, k))) (goes.each next.second_register (omega (arith, l))) h in
      omega (
        arith,
        all,
        paid.2,
        ap (λ (x : ℕ). next.factor * x) (register_number next.register m.hart m.vectors.config k),
        ap (λ (x : ℕ). next.second_factor * x) (register_number next.second_register m.hart m.vectors.config l),
      )

  block_is_paid : (o : Option Budget) (next : Budget) → IsBudgetOf next → IsPaid goes.numbers n o edge.state
      → is_paid_for edge o (Some next) ≡ true → IfSome o (λ own. budget_of next m.hart + edge.state.words ≤ n)
  unfolding is_paid_for pays
  block_is_paid None next is paid h = tt
  block_is_paid (Some own) next is paid h = own_pays own next (budget_below next is) (second_below next is) paid h

  end_is_paid : (o : Option Budget) → IsPaid goes.numbers n o edge.state → is_paid_for edge o None ≡ true
      → IfSome o (λ own. edge.state.words ≤ n)
  unfolding is_paid_for pays
  end_is_paid None paid h = tt
  end_is_paid (Some own) paid h = (let all = own_pays own no_budget (omega arith) (omega arith) paid h in omega (arith, all))

-- ---- blocks

found : (version : Version) (vlen : Vlen) (params : List Param) (p : Block → Bool) (from : ℕ) (blocks : List Block) (block : Block)
    → AllFrom (IsBlock version vlen params) after_block from blocks → find p blocks ≡ Some block → (k : ℕ) × IsBlock version vlen params k block
found version vlen params p from [] block is e = cc
found version vlen params p from (b ∷ bs) block is e = by_test (p b) refl (found version vlen params p (after_block b) bs block is.1) e
  where
    by_test : (t : Bool) → p b ≡ t → (find p bs ≡ Some block → (k : ℕ) × IsBlock version vlen params k block)
        → (if t then Some b else find p bs) ≡ Some block → (k : ℕ) × IsBlock version vlen params k block
    by_test true f rest g = (let same : b ≡ block = cc in (from, subst (λ (x : Block). IsBlock version vlen params from x) same is.0))
    by_test false f rest g = rest g

pub implied-fits : ImpliedFits
unfolding implied_by implies_block
implied-fits e n edge block m goes at certificate h =
    let is = found e.certificate.version e.certificate.vlen e.certificate.parameters _ 0 e.certificate.blocks block certificate.blocks at in
    let target = both_shown _ _ h in
    let type_is = both_shown _ _ target.1 in
    let intervals = both_shown _ _ type_is.1 in
    let equalities = both_shown _ _ intervals.1 in
    let ordered = both_shown _ _ equalities.1 in
    let elements = both_shown _ _ ordered.1 in (
      record {
        pc = leads edge block.start m.hart.pc (shown_true _ _ target.0) goes.target;
        facts =
            facts_hold e n edge m goes e.certificate.parameters 1 block.registers.items is.1.registers
            (shown_true _ _ intervals.0) (shown_true _ _ equalities.0);
        vtype = vtype_shown edge.state.vtype block.vtype m.vectors.config.vtype (shown_true _ _ type_is.0) goes.known.vtype;
        orders =
            orders_hold e n edge m goes block.registers.items 1 block.orders.items is.1.orders
            (shown_true _ _ ordered.0);
        vectors = vectors_hold e n edge m goes block.vectors.items (shown_true _ _ elements.0);
        proper = goes.known.proper;
      },
      block_is_paid e n edge m goes edge.state.budget block.budget is.1.budget goes.known.paid (shown_true _ _ elements.1),
    )

pub implied-ends : ImpliedEnds
unfolding implied_by implies_end
implied-ends e n edge m goes h =
    let shown = both_shown _ _ h in (
      leads edge exit m.hart.pc (shown_true _ _ shown.0) goes.target,
      end_is_paid e n edge m goes edge.state.budget goes.known.paid (shown_true _ _ shown.1),
    )
