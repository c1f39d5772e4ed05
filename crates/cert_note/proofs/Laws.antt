-- The two laws of each part of a certificate: what is read is spelled so and is valid, and what is valid is read from its
-- spelling, whatever follows.
use Rattle.std.proofs.Common.{◌≡◌, ℕ, zero, suc, ◌≤◌, ◌⊎◌, ◌<◌, ◌^◌, Bool, true, false, ◌&&◌, ◌||◌, cond, leb, ltb, eqb, List, [], ◌∷◌, ◌++◌, length, Option, Some, None, Ok, refl, sym, ap, subst, ◌∙◌, append_assoc, arith, inl, inr}
use Rattle.std.specs.List.{flat_map}
use Rattle.std.proofs.lemmas.Bool.{eqb-true}
use Rattle.std.proofs.lemmas.Bool.Decides.{nat_tests}
use Rattle.cert_note.specs.Words.{Version, Param, Vlen, EqualityTerm, Budget, VectorFact, OrderFact, Counts, FactGroup, Equality, RegisterFact, Block}
use Rattle.cert_note.specs.declared.refusals.CertError.TheVariants as error
use Rattle.cert_note.specs.declared.values.Version.TheVariants.{V1, V2}
use Rattle.std.proofs.lemmas.List.{nil_from_length}
use Rattle.cert_note.specs.Certificate.{is_width, is_group, is_budget, is_second, is_greater, is_lesser, after_term, after_fact, after_vector, after_order, IsTerm, IsEquality, SaysMore, IsRegisterFact, IsVectorFact, IsOrderFact, IsBudgetOf, IsVtype, IsOf, IsBlock}
use Rattle.elf_image.specs.Words.{half, word}
use Rattle.cert_note.specs.Spelling.{spelled_term, spelled_equality, spelled_fact, spelled_vector, spelled_order, spelled_budget, spelled_vtype, counts, spelled_block}
use Rattle.cert_note.specs.Reading.{byte_at, number_at, zero_at, zeros_at, term_at, terms_at, sum_at, none_at, some_at, equality_at, fact_at, facts_at, group_at, vector_at, vectors_at, single_at, double_at, budget_at, is_vtype, vtype_at, few_at, order_count_at, counts_at, order_at, orders_at, block_at}
use Rattle.elf_image.specs.Words.{AreBytes}
use Rattle.cert_note.proofs.Numbers.{bind_ok, after, expected, meeting, ok_is, Takes, Takes-then, byte_takes, byte_again, half_takes, half_again, word_takes, word_again, zero_takes, zeros_takes, zeros_again, many_takes, many_again}

pub chosen : {A : Type 0} (b : Bool) (x y z : A) → cond b x y ≡ z → ((b ≡ true) × (x ≡ z)) ⊎ ((b ≡ false) × (y ≡ z))
chosen true x y z e = inl (refl, e)
chosen false x y z e = inr (refl, e)

-- ---- terms

pub term_takes : (params : List Param) (from : ℕ) (bytes : List ℕ) (x : EqualityTerm) (rest : List ℕ) → AreBytes bytes → term_at params from bytes ≡ Ok (x, rest) → Takes bytes (spelled_term x) rest × IsTerm params from x
unfolding term_at spelled_term
term_takes params from bytes x rest fits e =
    let a = bind_ok (byte_at bytes) _ (x, rest) e in
    let p = expected _ _ _ _ (x, rest) a.2 in
    let b = bind_ok (number_at _ a.0.1) _ (x, rest) p.1 in
    let q = expected _ _ _ _ (x, rest) b.2 in
    let t0 = byte_takes bytes a.0.0 a.0.1 fits a.1 in
    let t1 = word_takes a.0.1 b.0.0 b.0.1 t0.0.rest_fits b.1 in
    let made : EqualityTerm × List ℕ = (record { atom = a.0.0; coefficient = b.0.0 }, b.0.1) in
    subst (λ (y : EqualityTerm × List ℕ). Takes bytes ((y.0.atom ∷ []) ++ word y.0.coefficient) y.1 × IsTerm params from y.0) (ok_is made (x, rest) q.1)
    (Takes-then bytes (a.0.0 ∷ []) a.0.1 (word b.0.0) b.0.1 t0.0 t1.0, record { atom = p.0; coefficient = q.0; fits = t1.1 })

pub term_again : (params : List Param) (from : ℕ) (x : EqualityTerm) (rest : List ℕ) → IsTerm params from x → term_at params from (spelled_term x ++ rest) ≡ Ok (x, rest)
unfolding term_at spelled_term byte_at
term_again params from x rest is = rw (is.atom, word_again x.coefficient rest is.fits, is.coefficient) refl

-- ---- equalities

pub sum_takes : (params : List Param) (count : ℕ) (bytes : List ℕ) (x : Equality) (rest : List ℕ) → AreBytes bytes → sum_at params count bytes ≡ Ok (x, rest) →
    Takes bytes (word x.constant ++ flat_map spelled_term x.terms.items) rest × (length x.terms.items ≡ count) × IsEquality params x
unfolding sum_at
sum_takes params count bytes x rest fits e =
    let p = expected _ _ _ _ (x, rest) e in
    let a = bind_ok (number_at _ bytes) _ (x, rest) p.1 in
    let b = bind_ok (terms_at params count 1 a.0.1) _ (x, rest) a.2 in
    let held : leb count 8 ≡ true = p.0 in
    let few : count ≤ 8 = grind (arith, nat_tests, held) in
    let t0 = word_takes bytes a.0.0 a.0.1 fits a.1 in
    let t1 = many_takes (term_at params) after_term spelled_term (IsTerm params) (term_takes params) count 1 a.0.1 b.0.0 b.0.1 t0.0.rest_fits b.1 in
    let made : Equality × List ℕ = (record { constant = a.0.0; terms = record { items = b.0.0 } }, b.0.1) in
    subst (λ (y : Equality × List ℕ). Takes bytes (word y.0.constant ++ flat_map spelled_term y.0.terms.items) y.1 × (length y.0.terms.items ≡ count) × IsEquality params y.0) (ok_is made (x, rest) b.2)
    (Takes-then bytes (word a.0.0) a.0.1 (flat_map spelled_term b.0.0) b.0.1 t0.0 t1.0, t1.1, record { few = omega (arith, t1.1); constant = t0.1; terms = t1.2 })

pub sum_again : (params : List Param) (x : Equality) (rest : List ℕ) → IsEquality params x → sum_at params (length x.terms.items) ((word x.constant ++ flat_map spelled_term x.terms.items) ++ rest) ≡ Ok (x, rest)
unfolding sum_at
sum_again params x rest is =
    let few : leb (length x.terms.items) 8 ≡ true = grind (arith, nat_tests, is.few) in
    let regrouped : (word x.constant ++ flat_map spelled_term x.terms.items) ++ rest ≡ word x.constant ++ (flat_map spelled_term x.terms.items ++ rest) = append_assoc (word x.constant) (flat_map spelled_term x.terms.items) rest in
    ap (sum_at params (length x.terms.items)) regrouped
    ∙ rw (few, word_again x.constant (flat_map spelled_term x.terms.items ++ rest) is.constant, many_again (term_at params) after_term spelled_term (IsTerm params) (term_again params) 1 x.terms.items rest is.terms) refl

pub equality_takes : (params : List Param) (low high : ℕ) (bytes : List ℕ) (x : Option Equality) (rest : List ℕ) → AreBytes bytes → equality_at params low high bytes ≡ Ok (x, rest) →
    Takes bytes (spelled_equality x) rest × SaysMore params low high x
unfolding equality_at none_at some_at spelled_equality
equality_takes params low high bytes x rest fits e =
    let a = bind_ok (byte_at bytes) (λ count. cond (eqb count.0 255) (none_at low high count.1) (some_at params count.0 count.1)) (x, rest) e in
    let t0 = byte_takes bytes a.0.0 a.0.1 fits a.1 in
    elim (chosen (eqb a.0.0 255) (none_at low high a.0.1) (some_at params a.0.0 a.0.1) (Ok (x, rest)) a.2) [
      | inl h ↦
          let p = expected _ _ _ _ (x, rest) h.1 in
          let last : a.0.0 ≡ 255 = eqb-true _ _ h.0 in
          subst (λ (y : Option Equality × List ℕ). Takes bytes (spelled_equality y.0) y.1 × SaysMore params low high y.0) (ok_is (None, a.0.1) (x, rest) p.1)
          (subst (λ (n : ℕ). Takes bytes (n ∷ []) a.0.1) last t0.0, p.0)
      | inr h ↦
          let b = bind_ok (sum_at params a.0.0 a.0.1) _ (x, rest) h.1 in
          let t1 = sum_takes params a.0.0 a.0.1 b.0.0 b.0.1 t0.0.rest_fits b.1 in
          let both = Takes-then bytes (a.0.0 ∷ []) a.0.1 (word b.0.0.constant ++ flat_map spelled_term b.0.0.terms.items) b.0.1 t0.0 t1.0 in
          subst (λ (y : Option Equality × List ℕ). Takes bytes (spelled_equality y.0) y.1 × SaysMore params low high y.0) (ok_is (Some b.0.0, b.0.1) (x, rest) b.2)
          (subst (λ (n : ℕ). Takes bytes ((n ∷ []) ++ (word b.0.0.constant ++ flat_map spelled_term b.0.0.terms.items)) b.0.1) (sym t1.1) both, t1.2)
    ]

pub equality_again : (params : List Param) (low high : ℕ) (x : Option Equality) (rest : List ℕ) → SaysMore params low high x → equality_at params low high (spelled_equality x ++ rest) ≡ Ok (x, rest)
unfolding equality_at none_at some_at spelled_equality byte_at
equality_again params low high None rest says = rw says refl
equality_again params low high (Some x) rest says =
    let short : eqb (length x.terms.items) 255 ≡ false = grind (arith, nat_tests, says.few) in
    rw (short, sum_again params x rest says) refl

-- ---- facts on registers

pub regroup3 : (a b c rest : List ℕ) → ((a ++ b) ++ c) ++ rest ≡ a ++ (b ++ (c ++ rest))
regroup3 a b c rest = simp append_assoc

pub regroup4 : (a b c d rest : List ℕ) → (((a ++ b) ++ c) ++ d) ++ rest ≡ a ++ (b ++ (c ++ (d ++ rest)))
regroup4 a b c d rest = simp append_assoc

regroup7 : (a b c d e f g rest : List ℕ) → ((((((a ++ b) ++ c) ++ d) ++ e) ++ f) ++ g) ++ rest ≡ a ++ (b ++ (c ++ (d ++ (e ++ (f ++ (g ++ rest))))))
regroup7 a b c d e f g rest = simp append_assoc

pub fact_takes : (params : List Param) (from : ℕ) (bytes : List ℕ) (x : RegisterFact) (rest : List ℕ) → AreBytes bytes → fact_at params from bytes ≡ Ok (x, rest) → Takes bytes (spelled_fact x) rest × IsRegisterFact params from x
unfolding fact_at spelled_fact
fact_takes params from bytes x rest fits e =
    after (byte_at bytes) _ (x, rest) e (λ a is_a e1.
    meeting _ _ _ _ (x, rest) e1 (λ number e2.
    after (number_at _ a.1) _ (x, rest) e2 (λ b is_b e3.
    after (number_at _ b.1) _ (x, rest) e3 (λ c is_c e4.
    meeting _ _ _ _ (x, rest) e4 (λ interval e5.
    after (equality_at params b.0 c.0 c.1) _ (x, rest) e5 (λ d is_d e6.
    let t0 = byte_takes bytes a.0 a.1 fits is_a in
    let t1 = word_takes a.1 b.0 b.1 t0.0.rest_fits is_b in
    let t2 = word_takes b.1 c.0 c.1 t1.0.rest_fits is_c in
    let t3 = equality_takes params b.0 c.0 c.1 d.0 d.1 t2.0.rest_fits is_d in
    let w1 = Takes-then bytes (a.0 ∷ []) a.1 (word b.0) b.1 t0.0 t1.0 in
    let w2 = Takes-then bytes ((a.0 ∷ []) ++ word b.0) b.1 (word c.0) c.1 w1 t2.0 in
    let w3 = Takes-then bytes (((a.0 ∷ []) ++ word b.0) ++ word c.0) c.1 (spelled_equality d.0) d.1 w2 t3.0 in
    let made : RegisterFact × List ℕ = (record { number = a.0; low = b.0; high = c.0; equality = d.0 }, d.1) in
    subst (λ (y : RegisterFact × List ℕ). Takes bytes (spelled_fact y.0) y.1 × IsRegisterFact params from y.0) (ok_is made (x, rest) e6)
    (w3, record { number = number; low = t1.1; high = t2.1; interval = interval; says = t3.1 })))))))

pub fact_again : (params : List Param) (from : ℕ) (x : RegisterFact) (rest : List ℕ) → IsRegisterFact params from x → fact_at params from (spelled_fact x ++ rest) ≡ Ok (x, rest)
unfolding fact_at spelled_fact byte_at
fact_again params from x rest is =
    ap (λ (t : List ℕ). fact_at params from (x.number ∷ t)) (regroup3 (word x.low) (word x.high) (spelled_equality x.equality) rest)
    ∙ rw (is.number, word_again x.low (word x.high ++ (spelled_equality x.equality ++ rest)) is.low, word_again x.high (spelled_equality x.equality ++ rest) is.high, is.interval, equality_again params x.low x.high x.equality rest is.says) refl

-- ---- facts on groups

abbrev IsGroupFrom : ℕ → FactGroup → Type 0
IsGroupFrom from g = ((leb from g.register && leb g.register 31) ≡ true) × (is_width g.width ≡ true) × (is_group g.register g.registers ≡ true)

abbrev spelled_group : FactGroup → List ℕ
spelled_group g = g.register ∷ g.width ∷ g.registers ∷ 0 ∷ []

group_takes : (from : ℕ) (bytes : List ℕ) (x : FactGroup) (rest : List ℕ) → AreBytes bytes → group_at from bytes ≡ Ok (x, rest) → Takes bytes (spelled_group x) rest × IsGroupFrom from x
unfolding group_at
group_takes from bytes x rest fits e =
    after (byte_at bytes) _ (x, rest) e (λ a is_a e1.
    meeting _ _ _ _ (x, rest) e1 (λ register e2.
    after (byte_at a.1) _ (x, rest) e2 (λ b is_b e3.
    meeting _ _ _ _ (x, rest) e3 (λ width e4.
    after (byte_at b.1) _ (x, rest) e4 (λ c is_c e5.
    meeting _ _ _ _ (x, rest) e5 (λ group e6.
    after (zero_at error.Fact c.1) _ (x, rest) e6 (λ d is_d e7.
    let t0 = byte_takes bytes a.0 a.1 fits is_a in
    let t1 = byte_takes a.1 b.0 b.1 t0.0.rest_fits is_b in
    let t2 = byte_takes b.1 c.0 c.1 t1.0.rest_fits is_c in
    let t3 = zero_takes error.Fact c.1 d t2.0.rest_fits is_d in
    let w1 = Takes-then bytes (a.0 ∷ []) a.1 (b.0 ∷ []) b.1 t0.0 t1.0 in
    let w2 = Takes-then bytes (a.0 ∷ b.0 ∷ []) b.1 (c.0 ∷ []) c.1 w1 t2.0 in
    let w3 = Takes-then bytes (a.0 ∷ b.0 ∷ c.0 ∷ []) c.1 (0 ∷ []) d w2 t3 in
    let made : FactGroup × List ℕ = (record { register = a.0; width = b.0; registers = c.0 }, d) in
    subst (λ (y : FactGroup × List ℕ). Takes bytes (spelled_group y.0) y.1 × IsGroupFrom from y.0) (ok_is made (x, rest) e7) (w3, (register, width, group)))))))))

group_again : (from : ℕ) (x : FactGroup) (rest : List ℕ) → IsGroupFrom from x → group_at from (spelled_group x ++ rest) ≡ Ok (x, rest)
unfolding group_at byte_at zero_at
group_again from x rest is = rw (is.0, is.1, is.2) refl

pub vector_takes : (vlen : Vlen) (from : ℕ) (bytes : List ℕ) (x : VectorFact) (rest : List ℕ) → AreBytes bytes → vector_at vlen from bytes ≡ Ok (x, rest) → Takes bytes (spelled_vector x) rest × IsVectorFact vlen from x
unfolding vector_at spelled_vector
vector_takes vlen from bytes x rest fits e =
    after (group_at from bytes) _ (x, rest) e (λ a is_a e1.
    after (number_at _ a.1) _ (x, rest) e1 (λ b is_b e2.
    meeting _ _ _ _ (x, rest) e2 (λ count e3.
    after (zeros_at error.Fact b.1) _ (x, rest) e3 (λ c is_c e4.
    after (number_at _ c) _ (x, rest) e4 (λ d is_d e5.
    after (number_at _ d.1) _ (x, rest) e5 (λ f is_f e6.
    meeting _ _ _ _ (x, rest) e6 (λ interval e7.
    let t0 = group_takes from bytes a.0 a.1 fits is_a in
    let t1 = half_takes a.1 b.0 b.1 t0.0.rest_fits is_b in
    let t2 = zeros_takes error.Fact b.1 c t1.0.rest_fits is_c in
    let t3 = word_takes c d.0 d.1 t2.rest_fits is_d in
    let t4 = word_takes d.1 f.0 f.1 t3.0.rest_fits is_f in
    let g = spelled_group a.0 in
    let w1 = Takes-then bytes g a.1 (half b.0) b.1 t0.0 t1.0 in
    let w2 = Takes-then bytes (g ++ half b.0) b.1 (half 0) c w1 t2 in
    let w3 = Takes-then bytes ((g ++ half b.0) ++ half 0) c (word d.0) d.1 w2 t3.0 in
    let w4 = Takes-then bytes (((g ++ half b.0) ++ half 0) ++ word d.0) d.1 (word f.0) f.1 w3 t4.0 in
    let made : VectorFact × List ℕ = (record { register = a.0.register; width = a.0.width; registers = a.0.registers; count = b.0; low = d.0; high = f.0 }, f.1) in
    subst (λ (y : VectorFact × List ℕ). Takes bytes (spelled_vector y.0) y.1 × IsVectorFact vlen from y.0) (ok_is made (x, rest) e7)
    (w4, record { register = t0.1.0; width = t0.1.1; group = t0.1.2; count = count; count_fits = t1.1; low = t3.1; high = t4.1; interval = interval }))))))))

pub vector_again : (vlen : Vlen) (from : ℕ) (x : VectorFact) (rest : List ℕ) → IsVectorFact vlen from x → vector_at vlen from (spelled_vector x ++ rest) ≡ Ok (x, rest)
unfolding vector_at spelled_vector
vector_again vlen from x rest is =
    let g : FactGroup = record { register = x.register; width = x.width; registers = x.registers } in
    let front : group_at from (spelled_group g ++ (half x.count ++ (half 0 ++ (word x.low ++ (word x.high ++ rest))))) ≡ Ok (g, half x.count ++ (half 0 ++ (word x.low ++ (word x.high ++ rest)))) =
    group_again from g (half x.count ++ (half 0 ++ (word x.low ++ (word x.high ++ rest)))) (is.register, is.width, is.group) in
    ap (λ (t : List ℕ). vector_at vlen from (x.register ∷ x.width ∷ x.registers ∷ 0 ∷ t)) (regroup4 (half x.count) (half 0) (word x.low) (word x.high) rest)
    ∙ rw (front, half_again x.count (half 0 ++ (word x.low ++ (word x.high ++ rest))) is.count_fits, is.count, zeros_again error.Fact (word x.low ++ (word x.high ++ rest)), word_again x.low (word x.high ++ rest) is.low, word_again x.high rest is.high, is.interval) refl

-- ---- budgets, vector types, counts

-- Only version 2 has a second register.
abbrev IsSingle : Version → Budget → Type 0
IsSingle V1 x = x.second_factor ≡ 0
IsSingle V2 x = Unit {0}

pub no_second : (k r : ℕ) → is_second k r 0 0 ≡ true
unfolding is_second
no_second k r = refl

none_second : (k r n m : ℕ) → is_second k r n m ≡ true → n ≡ 0 → m ≡ 0
unfolding is_second
none_second k r n m e zeros =
    let f : is_second k r 0 m ≡ true = subst (λ (i : ℕ). is_second k r i m ≡ true) zeros e in
    eqb-true m 0 f

-- a second factor stands beside a first one
beside : (k r n m : ℕ) → is_second k r n m ≡ true → (eqb n 0 || ltb 0 k) ≡ true
unfolding is_second
beside k r zero m e = refl
beside k r (suc n) m e =
    let lt : 0 < k = grind (arith, nat_tests, e) in
    grind (arith, nat_tests, lt)

single_takes : (bytes : List ℕ) (x : Budget) (rest : List ℕ) → AreBytes bytes → single_at bytes ≡ Ok (x, rest) → Takes bytes (spelled_budget V1 x) rest × IsBudgetOf x × (x.second_factor ≡ 0)
unfolding single_at spelled_budget
single_takes bytes x rest fits e =
    let a = bind_ok (number_at _ bytes) _ (x, rest) e in
    let b = bind_ok (number_at _ a.0.1) _ (x, rest) a.2 in
    let c = bind_ok (byte_at b.0.1) _ (x, rest) b.2 in
    let p = expected _ _ _ _ (x, rest) c.2 in
    let t0 = word_takes bytes a.0.0 a.0.1 fits a.1 in
    let t1 = word_takes a.0.1 b.0.0 b.0.1 t0.0.rest_fits b.1 in
    let t2 = byte_takes b.0.1 c.0.0 c.0.1 t1.0.rest_fits c.1 in
    let e1 = Takes-then bytes (word a.0.0) a.0.1 (word b.0.0) b.0.1 t0.0 t1.0 in
    let e2 = Takes-then bytes (word a.0.0 ++ word b.0.0) b.0.1 (c.0.0 ∷ []) c.0.1 e1 t2.0 in
    let made : Budget × List ℕ = (record { constant = a.0.0; factor = b.0.0; register = c.0.0; second_factor = 0; second_register = 0 }, c.0.1) in
    subst (λ (y : Budget × List ℕ). Takes bytes (spelled_budget V1 y.0) y.1 × IsBudgetOf y.0 × (y.0.second_factor ≡ 0)) (ok_is made (x, rest) p.1)
    (e2, record { constant = t0.1; factor = t1.1; register = p.0; second_factor = omega arith; second = no_second b.0.0 c.0.0 }, refl)

double_takes : (bytes : List ℕ) (x : Budget) (rest : List ℕ) → AreBytes bytes → double_at bytes ≡ Ok (x, rest) → Takes bytes (spelled_budget V2 x) rest × IsBudgetOf x
unfolding double_at spelled_budget
double_takes bytes x rest fits e =
    after (number_at _ bytes) _ (x, rest) e (λ a is_a e1.
    after (number_at _ a.1) _ (x, rest) e1 (λ b is_b e2.
    after (number_at _ b.1) _ (x, rest) e2 (λ c is_c e3.
    meeting (eqb c.0 0 || ltb 0 b.0) _ _ _ (x, rest) e3 (λ stands e4.
    after (byte_at c.1) _ (x, rest) e4 (λ d is_d e5.
    meeting (is_budget b.0 d.0) _ _ _ (x, rest) e5 (λ register e6.
    after (byte_at d.1) _ (x, rest) e6 (λ f is_f e7.
    meeting (is_second b.0 d.0 c.0 f.0) _ _ _ (x, rest) e7 (λ second e8.
    let t0 = word_takes bytes a.0 a.1 fits is_a in
    let t1 = word_takes a.1 b.0 b.1 t0.0.rest_fits is_b in
    let t2 = word_takes b.1 c.0 c.1 t1.0.rest_fits is_c in
    let t3 = byte_takes c.1 d.0 d.1 t2.0.rest_fits is_d in
    let t4 = byte_takes d.1 f.0 f.1 t3.0.rest_fits is_f in
    let last = Takes-then c.1 (d.0 ∷ []) d.1 (f.0 ∷ []) f.1 t3.0 t4.0 in
    let w1 = Takes-then bytes (word a.0) a.1 (word b.0) b.1 t0.0 t1.0 in
    let w2 = Takes-then bytes (word a.0 ++ word b.0) b.1 (word c.0) c.1 w1 t2.0 in
    let w3 = Takes-then bytes ((word a.0 ++ word b.0) ++ word c.0) c.1 (d.0 ∷ f.0 ∷ []) f.1 w2 last in
    let made : Budget × List ℕ = (record { constant = a.0; factor = b.0; register = d.0; second_factor = c.0; second_register = f.0 }, f.1) in
    subst (λ (y : Budget × List ℕ). Takes bytes (spelled_budget V2 y.0) y.1 × IsBudgetOf y.0) (ok_is made (x, rest) e8)
    (w3, record { constant = t0.1; factor = t1.1; register = register; second_factor = t2.1; second = second })))))))))

pub budget_takes : (version : Version) (bytes : List ℕ) (x : Budget) (rest : List ℕ) → AreBytes bytes → budget_at version bytes ≡ Ok (x, rest) →
    Takes bytes (spelled_budget version x) rest × IsBudgetOf x × IsSingle version x
unfolding budget_at
budget_takes V1 bytes x rest fits e = single_takes bytes x rest fits e
budget_takes V2 bytes x rest fits e = let t = double_takes bytes x rest fits e in (t.0, t.1, tt)

single_again : (c k r : ℕ) (rest : List ℕ) → c < 2 ^ 32 → k < 2 ^ 32 → is_budget k r ≡ true →
    single_at ((word c ++ word k ++ (r ∷ [])) ++ rest) ≡ Ok (record { constant = c; factor = k; register = r; second_factor = 0; second_register = 0 }, rest)
unfolding single_at
single_again c k r rest small less is =
    ap single_at (regroup3 (word c) (word k) (r ∷ []) rest)
    ∙ rw (word_again c (word k ++ ((r ∷ []) ++ rest)) small, word_again k ((r ∷ []) ++ rest) less, byte_again r rest, is) refl

double_again : (x : Budget) (rest : List ℕ) → IsBudgetOf x → double_at (spelled_budget V2 x ++ rest) ≡ Ok (x, rest)
unfolding double_at spelled_budget byte_at
double_again x rest is =
    let last = (x.register ∷ x.second_register ∷ []) ++ rest in
    ap double_at (regroup4 (word x.constant) (word x.factor) (word x.second_factor) (x.register ∷ x.second_register ∷ []) rest)
    ∙ rw (
      word_again x.constant (word x.factor ++ (word x.second_factor ++ last)) is.constant,
      word_again x.factor (word x.second_factor ++ last) is.factor,
      word_again x.second_factor last is.second_factor,
      beside x.factor x.register x.second_factor x.second_register is.second,
      is.register,
      is.second,
    ) refl

pub budget_again : (version : Version) (x : Budget) (rest : List ℕ) → IsBudgetOf x → IsSingle version x → budget_at version (spelled_budget version x ++ rest) ≡ Ok (x, rest)
unfolding budget_at spelled_budget
budget_again V1 x rest is single =
    let none = none_second x.factor x.register x.second_factor x.second_register is.second single in
    let spelled = (word x.constant ++ word x.factor ++ (x.register ∷ [])) ++ rest in
    subst (λ (n : ℕ). single_at spelled ≡ Ok (record { constant = x.constant; factor = x.factor; register = x.register; second_factor = n; second_register = x.second_register }, rest)) (sym single)
    (subst (λ (n : ℕ). single_at spelled ≡ Ok (record { constant = x.constant; factor = x.factor; register = x.register; second_factor = 0; second_register = n }, rest)) (sym none)
    (single_again x.constant x.factor x.register rest is.constant is.factor is.register))
budget_again V2 x rest is single = double_again x rest is

abbrev pub there : {A : Type 0} → A → Option A
there x = Some x

pub some_is : {A : Type 0} (x y : A) → there x ≡ there y → x ≡ y
some_is x y e = cc

known_is : (known bits : ℕ) → leb known 1 ≡ true → is_vtype known bits ≡ true →
    (known ∷ bits ∷ [] ≡ spelled_vtype (cond (eqb known 1) (Some bits) None)) × IsVtype (cond (eqb known 1) (Some bits) None)
unfolding is_vtype spelled_vtype
known_is zero bits le is = (ap (λ (n : ℕ). 0 ∷ n ∷ []) (eqb-true bits 0 is), tt)
known_is (suc zero) bits le is = (refl, is)
known_is (suc (suc known)) bits le is = absurd (grind (arith, nat_tests, le))

pub vtype_takes : (bytes : List ℕ) (x : Option ℕ) (rest : List ℕ) → AreBytes bytes → vtype_at bytes ≡ Ok (x, rest) → Takes bytes (spelled_vtype x) rest × IsVtype x
unfolding vtype_at
vtype_takes bytes x rest fits e =
    let a = bind_ok (byte_at bytes) _ (x, rest) e in
    let p = expected (leb a.0.0 1) _ _ _ (x, rest) a.2 in
    let b = bind_ok (byte_at a.0.1) _ (x, rest) p.1 in
    let q = expected (is_vtype a.0.0 b.0.0) _ _ _ (x, rest) b.2 in
    let k = known_is a.0.0 b.0.0 p.0 q.0 in
    let t0 = byte_takes bytes a.0.0 a.0.1 fits a.1 in
    let t1 = byte_takes a.0.1 b.0.0 b.0.1 t0.0.rest_fits b.1 in
    let e1 = Takes-then bytes (a.0.0 ∷ []) a.0.1 (b.0.0 ∷ []) b.0.1 t0.0 t1.0 in
    subst (λ (y : Option ℕ × List ℕ). Takes bytes (spelled_vtype y.0) y.1 × IsVtype y.0) (ok_is (cond (eqb a.0.0 1) (Some b.0.0) None, b.0.1) (x, rest) q.1)
    (subst (λ (t : List ℕ). Takes bytes t b.0.1) k.0 e1, k.1)

pub vtype_again : (x : Option ℕ) (rest : List ℕ) → IsVtype x → vtype_at (spelled_vtype x ++ rest) ≡ Ok (x, rest)
unfolding vtype_at spelled_vtype byte_at is_vtype
vtype_again None rest is = refl
vtype_again (Some vtype) rest is = rw is refl

few_takes : (bytes : List ℕ) (x : ℕ) (rest : List ℕ) → AreBytes bytes → few_at bytes ≡ Ok (x, rest) → Takes bytes (x ∷ []) rest × (x ≤ 32)
unfolding few_at
few_takes bytes x rest fits e =
    let a = bind_ok (byte_at bytes) _ (x, rest) e in
    let p = expected (leb a.0.0 32) _ _ _ (x, rest) a.2 in
    let t0 = byte_takes bytes a.0.0 a.0.1 fits a.1 in
    let few : a.0.0 ≤ 32 = grind (arith, nat_tests, p.0) in
    subst (λ (y : ℕ × List ℕ). Takes bytes (y.0 ∷ []) y.1 × (y.0 ≤ 32)) (ok_is (a.0.0, a.0.1) (x, rest) p.1) (t0.0, few)

few_again : (x : ℕ) (rest : List ℕ) → x ≤ 32 → few_at (x ∷ rest) ≡ Ok (x, rest)
unfolding few_at byte_at
few_again x rest few =
    let le : leb x 32 ≡ true = grind (arith, nat_tests, few) in
    rw le refl

-- Only version 2 has orders.
abbrev HasNone : Version → ℕ → Type 0
HasNone V1 n = n ≡ 0
HasNone V2 n = Unit {0}

abbrev order_count : Version → ℕ → List ℕ
order_count V1 n = 0 ∷ 0 ∷ []
order_count V2 n = n ∷ []

order_count_takes : (version : Version) (bytes : List ℕ) (x : ℕ) (rest : List ℕ) → AreBytes bytes → order_count_at version bytes ≡ Ok (x, rest) →
    Takes bytes (order_count version x) rest × (x ≤ 32) × HasNone version x
unfolding order_count_at
order_count_takes V1 bytes x rest fits e =
    let a = bind_ok (zero_at error.TooMany bytes) _ (x, rest) e in
    let b = bind_ok (zero_at error.TooMany a.0) _ (x, rest) a.2 in
    let t0 = zero_takes error.TooMany bytes a.0 fits a.1 in
    let t1 = zero_takes error.TooMany a.0 b.0 t0.rest_fits b.1 in
    subst (λ (y : ℕ × List ℕ). Takes bytes (0 ∷ 0 ∷ []) y.1 × (y.0 ≤ 32) × (y.0 ≡ 0)) (ok_is (0, b.0) (x, rest) b.2)
    (Takes-then bytes (0 ∷ []) a.0 (0 ∷ []) b.0 t0 t1, omega arith, refl)
order_count_takes V2 bytes x rest fits e = let t = few_takes bytes x rest fits e in (t.0, t.1, tt)

record HasCounts (version : Version) (registers vectors orders : ℕ) : Type 0 where
  registers_few : registers ≤ 32
  vectors_few : vectors ≤ 32
  orders_few : orders ≤ 32
  none : HasNone version orders

spelled_counts : (version : Version) (registers vectors orders : ℕ) →
    ((registers ∷ vectors ∷ []) ++ order_count version orders) ++ (0 ∷ []) ≡ counts version registers vectors orders
unfolding counts
spelled_counts V1 registers vectors orders = refl
spelled_counts V2 registers vectors orders = refl

counts_takes : (version : Version) (bytes : List ℕ) (x : Counts) (rest : List ℕ) → AreBytes bytes → counts_at version bytes ≡ Ok (x, rest) →
    Takes bytes (counts version x.registers x.vectors x.orders) rest × HasCounts version x.registers x.vectors x.orders
unfolding counts_at
counts_takes version bytes x rest fits e =
    let a = bind_ok (few_at bytes) _ (x, rest) e in
    let b = bind_ok (few_at a.0.1) _ (x, rest) a.2 in
    let c = bind_ok (order_count_at version b.0.1) _ (x, rest) b.2 in
    let d = bind_ok (zero_at error.TooMany c.0.1) _ (x, rest) c.2 in
    let t0 = few_takes bytes a.0.0 a.0.1 fits a.1 in
    let t1 = few_takes a.0.1 b.0.0 b.0.1 t0.0.rest_fits b.1 in
    let t2 = order_count_takes version b.0.1 c.0.0 c.0.1 t1.0.rest_fits c.1 in
    let t3 = zero_takes error.TooMany c.0.1 d.0 t2.0.rest_fits d.1 in
    let e1 = Takes-then bytes (a.0.0 ∷ []) a.0.1 (b.0.0 ∷ []) b.0.1 t0.0 t1.0 in
    let e2 = Takes-then bytes (a.0.0 ∷ b.0.0 ∷ []) b.0.1 (order_count version c.0.0) c.0.1 e1 t2.0 in
    let e3 = Takes-then bytes ((a.0.0 ∷ b.0.0 ∷ []) ++ order_count version c.0.0) c.0.1 (0 ∷ []) d.0 e2 t3 in
    let made : Counts × List ℕ = (record { registers = a.0.0; vectors = b.0.0; orders = c.0.0 }, d.0) in
    subst (λ (y : Counts × List ℕ). Takes bytes (counts version y.0.registers y.0.vectors y.0.orders) y.1 × HasCounts version y.0.registers y.0.vectors y.0.orders) (ok_is made (x, rest) d.2)
    (subst (λ (t : List ℕ). Takes bytes t d.0) (spelled_counts version a.0.0 b.0.0 c.0.0) e3, record { registers_few = t0.1; vectors_few = t1.1; orders_few = t2.1; none = t2.2 })

counts_again : (version : Version) (registers vectors orders : ℕ) (rest : List ℕ) → HasCounts version registers vectors orders →
    counts_at version (counts version registers vectors orders ++ rest) ≡ Ok (record { registers = registers; vectors = vectors; orders = orders }, rest)
unfolding counts_at counts order_count_at zero_at byte_at
counts_again V1 registers vectors orders rest has =
    subst (λ (n : ℕ). counts_at V1 ((registers ∷ vectors ∷ 0 ∷ 0 ∷ 0 ∷ []) ++ rest) ≡ Ok (record { registers = registers; vectors = vectors; orders = n }, rest)) (sym has.none)
    (rw (few_again registers (vectors ∷ 0 ∷ 0 ∷ 0 ∷ rest) has.registers_few, few_again vectors (0 ∷ 0 ∷ 0 ∷ rest) has.vectors_few) refl)
counts_again V2 registers vectors orders rest has =
    rw (few_again registers (vectors ∷ orders ∷ 0 ∷ rest) has.registers_few, few_again vectors (orders ∷ 0 ∷ rest) has.vectors_few, few_again orders (0 ∷ rest) has.orders_few) refl

-- ---- orders

order_takes : (facts : List RegisterFact) (from : ℕ) (bytes : List ℕ) (x : OrderFact) (rest : List ℕ) → AreBytes bytes → order_at facts from bytes ≡ Ok (x, rest) → Takes bytes (spelled_order x) rest × IsOrderFact facts from x
unfolding order_at spelled_order
order_takes facts from bytes x rest fits e =
    let a = bind_ok (byte_at bytes) _ (x, rest) e in
    let p = expected (is_greater facts from a.0.0) _ _ _ (x, rest) a.2 in
    let b = bind_ok (byte_at a.0.1) _ (x, rest) p.1 in
    let q = expected (is_lesser facts a.0.0 b.0.0) _ _ _ (x, rest) b.2 in
    let t0 = byte_takes bytes a.0.0 a.0.1 fits a.1 in
    let t1 = byte_takes a.0.1 b.0.0 b.0.1 t0.0.rest_fits b.1 in
    let made : OrderFact × List ℕ = (record { greater = a.0.0; lesser = b.0.0 }, b.0.1) in
    subst (λ (y : OrderFact × List ℕ). Takes bytes (y.0.greater ∷ y.0.lesser ∷ []) y.1 × IsOrderFact facts from y.0) (ok_is made (x, rest) q.1)
    (Takes-then bytes (a.0.0 ∷ []) a.0.1 (b.0.0 ∷ []) b.0.1 t0.0 t1.0, record { greater = p.0; lesser = q.0 })

order_again : (facts : List RegisterFact) (from : ℕ) (x : OrderFact) (rest : List ℕ) → IsOrderFact facts from x → order_at facts from (spelled_order x ++ rest) ≡ Ok (x, rest)
unfolding order_at spelled_order byte_at
order_again facts from x rest is = rw (is.greater, is.lesser) refl

-- ---- blocks

few_along : (n m : ℕ) → n ≡ m → m ≤ 32 → n ≤ 32
few_along n m e h = omega arith

same_counts : (version : Version) (a b c x y z : ℕ) → x ≡ a → y ≡ b → z ≡ c → counts version a b c ≡ counts version x y z
same_counts version a b c x y z p q r = rw (p, q, r) refl

of_version : (version : Version) (block : Block) (n : ℕ) → IsSingle version block.budget → HasNone version n → length block.orders.items ≡ n → IsOf version block
of_version V1 block n single none e = (single, nil_from_length block.orders.items (e ∙ none))
of_version V2 block n single none e = tt

single_of : (version : Version) (block : Block) → IsOf version block → IsSingle version block.budget
single_of V1 block of = of.0
single_of V2 block of = tt

none_of : (version : Version) (block : Block) → IsOf version block → HasNone version (length block.orders.items)
none_of V1 block of = ap length of.1
none_of V2 block of = tt

pub block_takes : (version : Version) (vlen : Vlen) (params : List Param) (from : ℕ) (bytes : List ℕ) (x : Block) (rest : List ℕ) → AreBytes bytes → block_at version vlen params from bytes ≡ Ok (x, rest) →
    Takes bytes (spelled_block version x) rest × IsBlock version vlen params from x
unfolding block_at spelled_block
block_takes version vlen params from bytes x rest fits e =
    after (number_at _ bytes) _ (x, rest) e (λ a is_a e1.
    meeting _ _ _ _ (x, rest) e1 (λ start e2.
    after (budget_at version a.1) _ (x, rest) e2 (λ b is_b e3.
    after (vtype_at b.1) _ (x, rest) e3 (λ c is_c e4.
    after (counts_at version c.1) _ (x, rest) e4 (λ d is_d e5.
    after (facts_at params d.0.registers 1 d.1) _ (x, rest) e5 (λ f is_f e6.
    after (vectors_at vlen d.0.vectors 0 f.1) _ (x, rest) e6 (λ g is_g e7.
    after (orders_at f.0 d.0.orders 1 g.1) _ (x, rest) e7 (λ h is_h e8.
    meeting _ _ _ _ (x, rest) e8 (λ free e9.
    let t0 = word_takes bytes a.0 a.1 fits is_a in
    let t1 = budget_takes version a.1 b.0 b.1 t0.0.rest_fits is_b in
    let t2 = vtype_takes b.1 c.0 c.1 t1.0.rest_fits is_c in
    let t3 = counts_takes version c.1 d.0 d.1 t2.0.rest_fits is_d in
    let t4 = many_takes (fact_at params) after_fact spelled_fact (IsRegisterFact params) (fact_takes params) d.0.registers 1 d.1 f.0 f.1 t3.0.rest_fits is_f in
    let t5 = many_takes (vector_at vlen) after_vector spelled_vector (IsVectorFact vlen) (vector_takes vlen) d.0.vectors 0 f.1 g.0 g.1 t4.0.rest_fits is_g in
    let t6 = many_takes (order_at f.0) after_order spelled_order (IsOrderFact f.0) (order_takes f.0) d.0.orders 1 g.1 h.0 h.1 t5.0.rest_fits is_h in
    let number = counts version (length f.0) (length g.0) (length h.0) in
    let counted : Takes c.1 number d.1 = subst (λ (t : List ℕ). Takes c.1 t d.1) (same_counts version d.0.registers d.0.vectors d.0.orders (length f.0) (length g.0) (length h.0) t4.1 t5.1 t6.1) t3.0 in
    let w = word a.0 in
    let w1 = w ++ spelled_budget version b.0 in
    let w2 = w1 ++ spelled_vtype c.0 in
    let w3 = w2 ++ number in
    let w4 = w3 ++ flat_map spelled_fact f.0 in
    let to1 = Takes-then bytes w a.1 (spelled_budget version b.0) b.1 t0.0 t1.0 in
    let to2 = Takes-then bytes w1 b.1 (spelled_vtype c.0) c.1 to1 t2.0 in
    let to3 = Takes-then bytes w2 c.1 number d.1 to2 counted in
    let to4 = Takes-then bytes w3 d.1 (flat_map spelled_fact f.0) f.1 to3 t4.0 in
    let to5 = Takes-then bytes w4 f.1 (flat_map spelled_vector g.0) g.1 to4 t5.0 in
    let to6 = Takes-then bytes (w4 ++ flat_map spelled_vector g.0) g.1 (flat_map spelled_order h.0) h.1 to5 t6.0 in
    let made : Block × List ℕ = (record { start = a.0; budget = b.0; vtype = c.0; registers = record { items = f.0 }; vectors = record { items = g.0 }; orders = record { items = h.0 } }, h.1) in
    let of = of_version version made.0 d.0.orders t1.2 t3.1.none t6.1 in
    subst (λ (y : Block × List ℕ). Takes bytes (spelled_block version y.0) y.1 × IsBlock version vlen params from y.0) (ok_is made (x, rest) e9)
    (to6, record { start = start; start_fits = t0.1; budget = t1.1; vtype = t2.1; few_registers = few_along (length f.0) d.0.registers t4.1 t3.1.registers_few; few_vectors = few_along (length g.0) d.0.vectors t5.1 t3.1.vectors_few; few_orders = few_along (length h.0) d.0.orders t6.1 t3.1.orders_few; registers = t4.2; vectors = t5.2; orders = t6.2; free = free; of = of }))))))))))

pub block_again : (version : Version) (vlen : Vlen) (params : List Param) (from : ℕ) (x : Block) (rest : List ℕ) → IsBlock version vlen params from x → block_at version vlen params from (spelled_block version x ++ rest) ≡ Ok (x, rest)
unfolding block_at spelled_block
block_again version vlen params from x rest is =
    let number = counts version (length x.registers.items) (length x.vectors.items) (length x.orders.items) in
    let orders = flat_map spelled_order x.orders.items ++ rest in
    let vectors = flat_map spelled_vector x.vectors.items ++ orders in
    let facts = flat_map spelled_fact x.registers.items ++ vectors in
    let counted = number ++ facts in
    let typed = spelled_vtype x.vtype ++ counted in
    let has : HasCounts version (length x.registers.items) (length x.vectors.items) (length x.orders.items) =
    record { registers_few = is.few_registers; vectors_few = is.few_vectors; orders_few = is.few_orders; none = none_of version x is.of } in
    ap (block_at version vlen params from) (regroup7 (word x.start) (spelled_budget version x.budget) (spelled_vtype x.vtype) number (flat_map spelled_fact x.registers.items) (flat_map spelled_vector x.vectors.items) (flat_map spelled_order x.orders.items) rest)
    ∙ rw (
      word_again x.start (spelled_budget version x.budget ++ typed) is.start_fits,
      is.start,
      budget_again version x.budget typed is.budget (single_of version x is.of),
      vtype_again x.vtype counted is.vtype,
      counts_again version (length x.registers.items) (length x.vectors.items) (length x.orders.items) facts has,
      many_again (fact_at params) after_fact spelled_fact (IsRegisterFact params) (fact_again params) 1 x.registers.items vectors is.registers,
      many_again (vector_at vlen) after_vector spelled_vector (IsVectorFact vlen) (vector_again vlen) 0 x.vectors.items orders is.vectors,
      many_again (order_at x.registers.items) after_order spelled_order (IsOrderFact x.registers.items) (order_again x.registers.items) 1 x.orders.items rest is.orders,
      is.free,
    ) refl
