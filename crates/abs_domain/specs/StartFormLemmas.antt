-- The sums that a certificate states are forms, and over the atoms of a block's start.
use Rattle.std.proofs.Common.{◌≡◌, ℕ, ◌<◌, ◌≤◌, ◌+◌, Bool, true, false, ◌&&◌, arith, refl, sym, ap, ◌∙◌, subst, length, map, take, get_or, append_assoc, zero, suc, List, [], ◌∷◌, ◌++◌, Option, Some, None, IfSome}
use Rattle.std.specs.Prelude.{nat_le, nat_lt, ◌==◌, if◌then◌else◌, find, slice_set, IsTrue}
use Rattle.std.specs.List.{AllByRecursion, slice_get, range_with_len}
use Rattle.std.proofs.lemmas.Option.{get_or_from_slice_get}
use Rattle.std.proofs.lemmas.List.FromFn.{map-range_with_len_more}
use Rattle.std.proofs.lemmas.Bool.Decides.{nat_tests}
use Rattle.std.proofs.lemmas.List.{map-append, length-map, get_or-map, take-map, take_more, take_more_set, length-take-le}
use Rattle.std.proofs.lemmas.Bool.{and_parts}
use Rattle.linear_facts.specs.declared.forms.Term.{Term}
use Rattle.linear_facts.specs.Forms.{IsForm, RisesFrom}
use Rattle.linear_facts.specs.Laws.{AreBelow}
use Rattle.region_mem.specs.declared.parameter.Param.{Param}
use Rattle.vreg_groups.specs.declared.vector_length.Vlen.{Vlen}
use Rattle.cert_note.specs.declared.values.EqualityTerm.{EqualityTerm}
use Rattle.cert_note.specs.declared.values.Budget.{Budget}
use Rattle.cert_note.specs.declared.values.Equality.{Equality}
use Rattle.cert_note.specs.declared.values.RegisterFact.{RegisterFact}
use Rattle.cert_note.specs.declared.values.Block.{Block}
use Rattle.cert_note.specs.declared.values.OrderFact.{OrderFact}
use Rattle.cert_note.specs.declared.values.Version.{Version}
use Rattle.cert_note.specs.Certificate.{CertificateView, IsCertificate, IsBlock, IsRegisterFact, IsEquality, IsTerm, IsBudgetOf, IsOrderFact, SaysMore, AllFrom, after_term, after_fact, after_block, is_atom, is_budget, is_second, is_greater, is_lesser, after_order}
use Rattle.abs_domain.specs.Starts.{form_term, equality_form, HasForm, IsUsable}

-- ---- lists of the first values of a function

pub range_more : {X : Type 0} (f : ℕ → X) (n : ℕ) → map f (range_with_len 0 (n + 1)) ≡ map f (range_with_len 0 n) ++ f n ∷ []
range_more f n = map-range_with_len_more f 0 n n (omega arith)

-- a value more is pushed
pub pushed_more : {X : Type 0} (f : ℕ → X) (n : ℕ) (old new : List X) (x : X) → old ≡ map f (range_with_len 0 n) → x ≡ f n → new ≡ old ++ x ∷ []
    → new ≡ map f (range_with_len 0 (n + 1))
pushed_more f n old new x before is push =
    push ∙ (ap (λ xs. xs ++ x ∷ []) before ∙ (ap (λ y. map f (range_with_len 0 n) ++ y ∷ []) is ∙ sym (range_more f n)))

-- the same behind another list
pub pushed_behind : {X : Type 0} (front : List X) (f : ℕ → X) (n : ℕ) (old new : List X) (x : X) → old ≡ front ++ map f (range_with_len 0 n) → x ≡ f n
    → new ≡ old ++ x ∷ [] → new ≡ front ++ map f (range_with_len 0 (n + 1))
pushed_behind front f n old new x before is push =
    push ∙ (ap (λ xs. xs ++ x ∷ []) before ∙ (append_assoc front (map f (range_with_len 0 n)) (x ∷ [])
    ∙ ap (λ xs. front ++ xs) (ap (λ y. map f (range_with_len 0 n) ++ y ∷ []) is ∙ sym (range_more f n))))

-- a value more is written in its place
pub written_more : {X : Type 0} (f : ℕ → X) (n : ℕ) (old : List X) (x : X) → n < length old → take n old ≡ map f (range_with_len 0 n) → x ≡ f n
    → take (n + 1) (slice_set old n x) ≡ map f (range_with_len 0 (n + 1))
written_more f n old x l before is = take_more_set old n x l ∙ pushed_more f n (take n old) (take n old ++ x ∷ []) x before is refl

-- the same for the values of a function at the items of a list
pub mapped_more : {X Y : Type 0} (f : X → Y) (xs : List X) (n : ℕ) (d : X) (old : List Y) (y : Y) → n < length old → n < length xs
    → take n old ≡ map f (take n xs) → y ≡ f (get_or xs n d) → take (n + 1) (slice_set old n y) ≡ map f (take (n + 1) xs)
mapped_more f xs n d old y l g before is =
    take_more_set old n y l ∙ (ap (λ zs. zs ++ y ∷ []) before ∙ (ap (λ z. map f (take n xs) ++ z ∷ []) is
    ∙ (sym (map-append f (take n xs) (get_or xs n d ∷ [])) ∙ ap (map f) (sym (take_more xs n d g)))))

-- ---- tests

-- an atom of a certificate is one of the 41
pub atom_below : (params : List Param) (atom : ℕ) → is_atom params atom ≡ true → atom < 41
unfolding is_atom
atom_below params atom e = grind (arith, nat_tests)

-- the register of a budget is one of the 32
pub budget_below : (budget : Budget) → IsBudgetOf budget → budget.register < 32
unfolding is_budget
budget_below budget is = by_factor (budget.factor == 0) is.register
  where
    by_factor : (t : Bool) → IsTrue (if t then budget.register == 0 else (nat_le 1 budget.register && nat_le budget.register 31)) → budget.register < 32
    by_factor true h = grind (arith, nat_tests)
    by_factor false h = grind (arith, nat_tests)

-- so is its second one
pub second_below : (budget : Budget) → IsBudgetOf budget → budget.second_register < 32
unfolding is_second
second_below budget is = by_factor (budget.second_factor == 0) is.second
  where
    by_factor : (t : Bool)
        → IsTrue (if t then budget.second_register == 0 else (nat_lt 0 budget.factor && nat_lt budget.register budget.second_register && nat_le budget.second_register 31))
        → budget.second_register < 32
    by_factor true h = grind (arith, nat_tests)
    by_factor false h = grind (arith, nat_tests)

-- the registers of an order are of the 33
pub greater_below : (facts : List RegisterFact) (from : ℕ) (order : OrderFact) → IsOrderFact facts from order → order.greater < 33
unfolding is_greater
greater_below facts from order is = (let h = is.greater in grind (arith, nat_tests))

pub lesser_below : (facts : List RegisterFact) (from : ℕ) (order : OrderFact) → IsOrderFact facts from order → order.lesser < 33
unfolding is_lesser
lesser_below facts from order is = (let h = is.lesser in grind (arith, nat_tests))

greaters_below : (facts : List RegisterFact) (from : ℕ) (orders : List OrderFact) → AllFrom (IsOrderFact facts) after_order from orders
    → AllByRecursion (λ (order : OrderFact). order.greater < 33) orders
greaters_below facts from [] is = tt
greaters_below facts from (o ∷ os) is = (greater_below facts from o is.0, greaters_below facts (after_order o) os is.1)

-- ---- equalities are forms

term_from : (params : List Param) (from : ℕ) (t : EqualityTerm) → IsTerm params from t → from ≤ t.atom
term_from params from t is =
    let test = and_parts (nat_le from t.atom) (is_atom params t.atom) is.atom in
    grind (arith, nat_tests)

coefficient_some : (params : List Param) (from : ℕ) (t : EqualityTerm) → IsTerm params from t → 0 < t.coefficient
coefficient_some params from t is = (let test = is.coefficient in grind (arith, nat_tests))

terms_rise : (params : List Param) (from : ℕ) (ts : List EqualityTerm) → AllFrom (IsTerm params) after_term from ts → RisesFrom from (map form_term ts)
terms_rise params from [] h = tt
terms_rise params from (t ∷ ts) h =
    (term_from params from t h.0, coefficient_some params from t h.0, h.0.fits, terms_rise params (t.atom + 1) ts h.1)

pub terms_below : (params : List Param) (from : ℕ) (ts : List EqualityTerm) → AllFrom (IsTerm params) after_term from ts → AreBelow 41 (map form_term ts)
terms_below params from [] h = tt
terms_below params from (t ∷ ts) h =
    (atom_below params t.atom (and_parts (nat_le from t.atom) (is_atom params t.atom) h.0.atom).1, terms_below params (t.atom + 1) ts h.1)

rises_lower : (low : ℕ) (ts : List Term) → RisesFrom (low + 1) ts → RisesFrom low ts
rises_lower low [] h = tt
rises_lower low (t ∷ ts) h = (omega (arith, h.0), h.1, h.2, h.3)

pub equality_is : (params : List Param) (equality : Equality) → IsEquality params equality → IsForm 8 (equality_form equality)
equality_is params equality is = record {
  constant_fits = is.constant;
  rises = rises_lower 0 (map form_term equality.terms.items) (terms_rise params 1 equality.terms.items is.terms);
  has_room = omega (arith, length-map equality.terms.items form_term, is.few);
}

pub equality_below : (params : List Param) (equality : Equality) → IsEquality params equality → AreBelow 41 (equality_form equality).terms
equality_below params equality is = terms_below params 1 equality.terms.items is.terms

-- ---- terms one after another

rises_on : (low : ℕ) (ts : List Term) (k : ℕ) (d : Term) → RisesFrom low ts → k < length ts → low ≤ (get_or ts k d).atom
rises_on low [] k d h l = absurd (omega (arith, l))
rises_on low (t ∷ ts) zero d h l = h.0
rises_on low (t ∷ ts) (suc k) d h l = (let more = rises_on (t.atom + 1) ts k d h.3 (omega (arith, l)) in omega (arith, more, h.0))

rises_past : (low : ℕ) (ts : List Term) (k : ℕ) (d : Term) → RisesFrom low ts → k < length ts
    → AreBelow (get_or ts k d).atom (take k ts)
rises_past low [] k d h l = absurd (omega (arith, l))
rises_past low (t ∷ ts) zero d h l = tt
rises_past low (t ∷ ts) (suc k) d h l =
    (let more = rises_on (t.atom + 1) ts k d h.3 (omega (arith, l)) in omega (arith, more), rises_past (t.atom + 1) ts k d h.3 (omega (arith, l)))

rises_some : (low : ℕ) (ts : List Term) (k : ℕ) (d : Term) → RisesFrom low ts → k < length ts → 0 < (get_or ts k d).coefficient
rises_some low [] k d h l = absurd (omega (arith, l))
rises_some low (t ∷ ts) zero d h l = h.1
rises_some low (t ∷ ts) (suc k) d h l = rises_some (t.atom + 1) ts k d h.3 (omega (arith, l))

mapped : (ts : List EqualityTerm) (k : ℕ) (d : EqualityTerm) → k < length ts → get_or (map form_term ts) k (form_term d) ≡ form_term (get_or ts k d)
mapped ts k d l = get_or-map form_term ts k d (form_term d) l

-- the term at a place may follow those before it
pub term_past : (constant : ℕ) (ts : List EqualityTerm) (k : ℕ) (d : EqualityTerm) → IsForm 8 record { constant = constant; terms = map form_term ts } → k < length ts
    → AreBelow (get_or ts k d).atom (map form_term (take k ts))
term_past constant ts k d is l =
    let long : k < length (map form_term ts) = omega (arith, length-map ts form_term, l) in
    let at : (get_or (map form_term ts) k (form_term d)).atom ≡ (get_or ts k d).atom = ap (λ (t : Term). t.atom) (mapped ts k d l) in
    subst (λ (us : List Term). AreBelow (get_or ts k d).atom us) (take-map form_term k ts)
    (subst (λ (a : ℕ). AreBelow a (take k (map form_term ts))) at (rises_past 0 (map form_term ts) k (form_term d) is.rises long))

pub term_some : (constant : ℕ) (ts : List EqualityTerm) (k : ℕ) (d : EqualityTerm) → IsForm 8 record { constant = constant; terms = map form_term ts } → k < length ts
    → 0 < (get_or ts k d).coefficient
term_some constant ts k d is l =
    let long : k < length (map form_term ts) = omega (arith, length-map ts form_term, l) in
    subst (λ (t : Term). 0 < t.coefficient) (mapped ts k d l) (rises_some 0 (map form_term ts) k (form_term d) is.rises long)

pub terms_room : (constant : ℕ) (ts : List EqualityTerm) (k : ℕ) → IsForm 8 record { constant = constant; terms = map form_term ts } → k < length ts
    → length (map form_term (take k ts)) < 8
terms_room constant ts k is l =
    omega (arith, length-map ts form_term, length-map (take k ts) form_term, is.has_room, l, length-take-le k ts (omega (arith, l)))

-- ---- the facts of a block

fact_has : (params : List Param) (from : ℕ) (fact : RegisterFact) → IsRegisterFact params from fact → HasForm fact
fact_has params from fact is = by_equality fact.equality is.says
  where
    by_equality : (o : Option Equality) → SaysMore params fact.low fact.high o → IfSome o (λ equality. IsForm 8 (equality_form equality))
    by_equality None says = tt
    by_equality (Some equality) says = equality_is params equality says

pub facts_have : (params : List Param) (from : ℕ) (facts : List RegisterFact) → AllFrom (IsRegisterFact params) after_fact from facts
    → AllByRecursion HasForm facts
facts_have params from [] h = tt
facts_have params from (fact ∷ facts) h = (fact_has params from fact h.0, facts_have params (fact.number + 1) facts h.1)

-- what is found in a list has what all in it have
pub found_has : {X : Type 0} (P : X → Type 0) (test : X → Bool) (xs : List X) (x : X) → AllByRecursion P xs → find test xs ≡ Some x → P x
found_has P test [] x all e = absurd (cc)
found_has P test (y ∷ ys) x all e = by_test (test y) refl (λ f. found_has P test ys x all.1 f)
  where
    same : {X : Type 0} (a b : X) → Some a ≡ Some b → a ≡ b
    same a b e = cc

    by_test : (t : Bool) → test y ≡ t → (find test ys ≡ Some x → P x) → P x
    by_test true f more = subst P (same y x (rw f at e)) all.0
    by_test false f more = more (rw f at e)

pub found_passes : {X : Type 0} (test : X → Bool) (xs : List X) (x : X) → find test xs ≡ Some x → test x ≡ true
found_passes test [] x e = absurd (cc)
found_passes test (y ∷ ys) x e = by_test (test y) refl (λ f. found_passes test ys x f)
  where
    same : {X : Type 0} (a b : X) → Some a ≡ Some b → a ≡ b
    same a b e = cc

    by_test : (t : Bool) → test y ≡ t → (find test ys ≡ Some x → test x ≡ true) → test x ≡ true
    by_test true f more = ap test (sym (same y x (rw f at e))) ∙ f
    by_test false f more = more (rw f at e)

-- ---- the blocks of a certificate

module _ {X : Type 0} (Valid : ℕ → X → Type 0) (next : X → ℕ) where
  -- an item of such a list is valid from some number on
  pub item_is : (from : ℕ) (xs : List X) (k : ℕ) (d : X) → AllFrom Valid next from xs → k < length xs → (n : ℕ) × Valid n (get_or xs k d)
  item_is from [] k d all l = absurd (omega (arith, l))
  item_is from (y ∷ ys) zero d all l = (from, all.0)
  item_is from (y ∷ ys) (suc k) d all l = item_is (next y) ys k d all.1 (omega (arith, l))

  -- so is one that is found
  pub found_is : (test : X → Bool) (from : ℕ) (xs : List X) (x : X) → AllFrom Valid next from xs → find test xs ≡ Some x → (n : ℕ) × Valid n x
  found_is test from [] x all e = absurd (cc)
  found_is test from (y ∷ ys) x all e = by_test (test y) refl (λ f. found_is test (next y) ys x all.1 f)
    where
      same : (a b : X) → Some a ≡ Some b → a ≡ b
      same a b e = cc

      by_test : (t : Bool) → test y ≡ t → (find test ys ≡ Some x → (n : ℕ) × Valid n x) → (n : ℕ) × Valid n x
      by_test true f more = (from, subst (Valid from) (same y x (rw f at e)) all.0)
      by_test false f more = more (rw f at e)

is_usable : (version : Version) (vlen : Vlen) (params : List Param) (from : ℕ) (block : Block) → IsBlock version vlen params from block → IsUsable block
is_usable version vlen params from block is = record {
  forms = facts_have params 1 block.registers.items is.registers;
  register = budget_below block.budget is.budget;
  second_register = second_below block.budget is.budget;
  few = is.few_vectors;
  few_orders = is.few_orders;
  orders = greaters_below block.registers.items 1 block.orders.items is.orders;
}

-- a block of a certificate, as an index gives it
pub block_usable : (certificate : CertificateView) (blocks : List Block) (k : ℕ) (block : Block) → IsCertificate certificate → blocks ≡ certificate.blocks
    → k < length certificate.blocks → block ≡ get_or blocks k block → IsUsable block
block_usable certificate blocks k block is same l e =
    let at : block ≡ get_or certificate.blocks k block = e ∙ ap (λ (bs : List Block). get_or bs k block) same in
    let valid = item_is (IsBlock certificate.version certificate.vlen certificate.parameters) after_block 0 certificate.blocks k block is.blocks l in
    subst IsUsable (sym at) (is_usable certificate.version certificate.vlen certificate.parameters valid.0 (get_or certificate.blocks k block) valid.1)

-- the block that an index gives is the one at the place
pub block_same : (certificate : CertificateView) (blocks : List Block) (k : ℕ) (block other : Block) → blocks ≡ certificate.blocks
    → block ≡ get_or blocks k block → slice_get certificate.blocks k ≡ Some other → block ≡ other
block_same certificate blocks k block other same e f =
    e ∙ (ap (λ (bs : List Block). get_or bs k block) same ∙ get_or_from_slice_get certificate.blocks k other block f)
