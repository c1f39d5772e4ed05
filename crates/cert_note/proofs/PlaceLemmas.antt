-- Where the first fault is: what is read of bytes, beside what is read of fewer of them.
use Rattle.std.proofs.Common.{◌≡◌, ◌≢◌, ℕ, zero, suc, ◌+◌, ◌-◌, ◌≤◌, ◌<◌, ◌⊎◌, ◌%◌, ◌==◌, ◌&&◌, ◌||◌, not, nat_le, nat_lt, Bool, true, false, cond, ltb, List, [], ◌∷◌, ◌++◌, length, take, drop, Option, Some, None, Result, Ok, Err, refl, sym, ap, subst, ◌∙◌, arith, inl, inr}
use Rattle.std.specs.Prelude.{ok_or}
use Rattle.std.specs.Int.{Width, w16, w32, byte_len, from_le_bytes}
use Rattle.std.specs.Result.{result_map_both}
use Rattle.std.proofs.lemmas.Bool.{ltb-false, ltb-true}
use Rattle.std.proofs.lemmas.List.{take-append-drop, take-append-le, drop-append-le, length-append, length-drop, nil_from_length}
use Rattle.region_mem.specs.Parameter.{parameters_of}
use Rattle.cert_note.specs.Words.{Version, Front, Param, Vlen, Block, RegisterFact}
use Rattle.cert_note.specs.declared.values.Version.TheVariants.{V1, V2}
use Rattle.cert_note.specs.declared.refusals.CertError.{CertError}
use Rattle.cert_note.specs.declared.refusals.CertError.TheVariants as error
use Rattle.cert_note.specs.declared.refusals.Fault.{Fault}
use Rattle.cert_note.specs.Certificate.{CertificateView, is_atom, is_full, is_budget, is_second, is_width, is_group, is_count, is_interval, is_greater, is_lesser, are_free, after_term, after_fact, after_vector, after_order, after_block}
use Rattle.cert_note.specs.Reading.{◌>>=◌, fault_of, expect, One, byte_at, number_at, zero_at, zeros_at, many_at, version_of, vlen_of, header_at, is_mode, is_first_number, is_second_number, parameter_at, parameter_from, after_parameter, term_at, sum_at, none_at, some_at, equality_at, fact_at, group_at, vector_at, single_at, double_at, budget_at, is_vtype, vtype_at, few_at, order_count_at, counts_at, order_at, block_at, count_at, front_at, blocks_behind, nothing_at, reading_of, certificate_of, IsFaultPlace}

abbrev is_short : CertError → Bool
is_short error.Short = true
is_short _ = false

abbrev cut_off : Fault
cut_off = fault_of error.Short []

-- ---- readings that are alike

-- the bytes behind what was read, and the same with more of them
record Shape (X : Type 0) : Type 0 where
  rest : X → List ℕ
  extend : List ℕ → X → X

abbrev pair : {A : Type 0} → Shape (A × List ℕ)
pair = record { rest = λ x. x.1; extend = λ more x. (x.0, x.1 ++ more) }

abbrev list : Shape (List ℕ)
list = record { rest = λ x. x; extend = λ more x. x ++ more }

-- A fault lies in n bytes, and what is cut off is read to the end.
record IsIn (n : ℕ) (f : Fault) : Type 0 where
  inside : f.left ≤ n
  whole : is_short f.error ≡ true → f.left ≡ 0

abbrev IsWithin : {X : Type 0} → Shape X → ℕ → Result X Fault → Type 0
IsWithin shape n (Ok x) = length (shape.rest x) ≤ n
IsWithin shape n (Err f) = IsIn n f

-- With some bytes left out behind, the same is read, or the bytes are cut off within what was read.
abbrev AreAlike : {X : Type 0} → Shape X → List ℕ → Result X Fault → Result X Fault → Type 0
AreAlike shape out (Ok x) (Ok y) = x ≡ shape.extend out y
AreAlike shape out (Ok x) (Err g) = (g ≡ cut_off) × (length (shape.rest x) < length out)
AreAlike shape out (Err f) (Ok y) = ⊥
AreAlike shape out (Err f) (Err g) =
    ((f.error ≡ g.error) × (f.left ≡ g.left + length out)) ⊎ ((g ≡ cut_off) × (f.left < length out))

record Cut {X : Type 0} (shape : Shape X) (out : List ℕ) (n : ℕ) (r s : Result X Fault) : Type 0 where
  alike : AreAlike shape out r s
  within : IsWithin shape n s

abbrev IsReader : {A : Type 0} → (List ℕ → Result (A × List ℕ) Fault) → Type 0
IsReader read = (p out : List ℕ) → Cut pair out (length p) (read (p ++ out)) (read p)

widen : {X : Type 0} (shape : Shape X) (n m : ℕ) (s : Result X Fault) → n ≤ m → IsWithin shape n s → IsWithin shape m s
widen shape n m (Ok x) le is = omega (arith, le, is)
widen shape n m (Err f) le is = record { inside = omega (arith, le, is.inside); whole = is.whole }

-- what is left out stays left out
missed : {X : Type 0} (shape : Shape X) (out : List ℕ) (n : ℕ) (r : Result X Fault) (g : Fault) → g ≡ cut_off → n < length out → IsWithin shape n r → AreAlike shape out r (Err g)
missed shape out n (Ok x) g is lt in_r = (is, omega (arith, lt, in_r))
missed shape out n (Err f) g is lt in_r = inr (is, omega (arith, lt, in_r.inside))

-- ---- steps

-- one reading after another
step : {X Y : Type 0} (from : Shape X) (to : Shape Y) (out : List ℕ) (n : ℕ) (r s : Result X Fault) (f : X → Result Y Fault) → Cut from out n r s
    → ((y : X) (out : List ℕ) → Cut to out (length (from.rest y)) (f (from.extend out y)) (f y)) → Cut to out n (r >>= f) (s >>= f)
step from to out n (Ok x) (Ok y) f c goes_on =
    let g = goes_on y out in
    record {
      alike = subst (λ z. AreAlike to out (f z) (f y)) (sym c.alike) g.alike;
      within = widen to (length (from.rest y)) n (f y) c.within g.within;
    }
step from to out n (Ok x) (Err g) f c goes_on =
    record { alike = missed to out (length (from.rest x)) (f x) g c.alike.0 c.alike.1 (goes_on x []).within; within = c.within }
step from to out n (Err d) (Ok y) f c goes_on = absurd c.alike
step from to out n (Err d) (Err g) f c goes_on = record { alike = c.alike; within = c.within }

reads : {A Y : Type 0} {to : Shape Y} {out : List ℕ} {n : ℕ} {r s : Result (A × List ℕ) Fault} {f : A × List ℕ → Result Y Fault} → Cut pair out n r s
    → ((y : A × List ℕ) (out : List ℕ) → Cut to out (length y.1) (f (y.0, y.1 ++ out)) (f y)) → Cut to out n (r >>= f) (s >>= f)
reads {A} {Y} {to} {out} {n} {r} {s} {f} c goes_on = step pair to out n r s f c goes_on

passes : {Y : Type 0} {to : Shape Y} {out : List ℕ} {n : ℕ} {r s : Result (List ℕ) Fault} {f : List ℕ → Result Y Fault} → Cut list out n r s
    → ((y out : List ℕ) → Cut to out (length y) (f (y ++ out)) (f y)) → Cut to out n (r >>= f) (s >>= f)
passes {Y} {to} {out} {n} {r} {s} {f} c goes_on = step list to out n r s f c goes_on

-- a fault of a field
faulty : {Y : Type 0} (to : Shape Y) (e : CertError) (q out : List ℕ) → is_short e ≡ false → Cut to out (length q) (Err (fault_of e (q ++ out))) (Err (fault_of e q))
faulty to e q out other =
    record { alike = inl (refl, length-append q out); within = record { inside = omega arith; whole = λ h. absurd (let both : false ≡ true = sym other ∙ h in cc) } }

-- a condition on a field
meets : {Y : Type 0} {to : Shape Y} {f g : Unit {0} → Result Y Fault} (b : Bool) (e : CertError) (q out : List ℕ) → is_short e ≡ false → ((u : Unit {0}) → Cut to out (length q) (f u) (g u))
    → Cut to out (length q) (expect b e (q ++ out) >>= f) (expect b e q >>= g)
meets {Y} {to} true e q out other goes_on = goes_on tt
meets {Y} {to} false e q out other goes_on = faulty to e q out other

-- a value that is there
finds : {A Y : Type 0} {to : Shape Y} {f g : A → Result Y Fault} (o : Option A) (e : CertError) (q out : List ℕ) → is_short e ≡ false → ((x : A) → Cut to out (length q) (f x) (g x))
    → Cut to out (length q) (ok_or o (fault_of e (q ++ out)) >>= f) (ok_or o (fault_of e q) >>= g)
finds {A} {Y} {to} (Some x) e q out other goes_on = goes_on x
finds {A} {Y} {to} None e q out other goes_on = faulty to e q out other

either : {Y : Type 0} {to : Shape Y} {out : List ℕ} {n : ℕ} {r s t u : Result Y Fault} (b : Bool) → Cut to out n r t → Cut to out n s u → Cut to out n (cond b r s) (cond b t u)
either true c d = c
either false c d = d

done : {A : Type 0} (x : A) (q out : List ℕ) → Cut pair out (length q) (Ok (x, q ++ out)) (Ok (x, q))
done x q out = record { alike = refl; within = omega arith }

ended : (q out : List ℕ) → Cut list out (length q) (Ok (q ++ out)) (Ok q)
ended q out = record { alike = refl; within = omega arith }

-- ---- fields

nothing_missed : {A : Type 0} (out : List ℕ) (n : ℕ) → length out ≡ 0 → Cut (pair {A = A}) out n (Err cut_off) (Err cut_off)
nothing_missed out n is = record { alike = inl (refl, omega (arith, is)); within = record { inside = omega arith; whole = λ h. refl } }

byte_reader : IsReader byte_at
unfolding byte_at
byte_reader [] [] = nothing_missed [] 0 refl
byte_reader [] (b ∷ out) = record { alike = (refl, omega arith); within = record { inside = omega arith; whole = λ h. refl } }
byte_reader (b ∷ p) out = record { alike = refl; within = omega arith }

-- the number at the front of enough bytes
abbrev number_of : Width → List ℕ → Result (ℕ × List ℕ) Fault
number_of w bytes = Ok (from_le_bytes w (take (byte_len w) bytes), drop (byte_len w) bytes)

number_reader : (w : Width) → IsReader (number_at w)
unfolding number_at
number_reader w p out = by_length (ltb (length p) (byte_len w)) refl (ltb (length (p ++ out)) (byte_len w)) refl
  where
    by_length : (short : Bool) → ltb (length p) (byte_len w) ≡ short → (less : Bool) → ltb (length (p ++ out)) (byte_len w) ≡ less
        → Cut pair out (length p) (cond less (Err cut_off) (number_of w (p ++ out))) (cond short (Err cut_off) (number_of w p))
    by_length true short true less = by_out out less
      where
        by_out : (more : List ℕ) → ltb (length (p ++ out)) (byte_len w) ≡ true → Cut (pair {A = ℕ}) more (length p) (Err cut_off) (Err cut_off)
        by_out [] h = nothing_missed [] (length p) refl
        by_out (b ∷ more) h = record { alike = inr (refl, omega arith); within = record { inside = omega arith; whole = λ i. refl } }
    by_length true short false less =
        let few : length p < byte_len w = ltb-true _ _ short in
        let enough : byte_len w ≤ length (p ++ out) = ltb-false _ _ less in
        record {
          alike = (refl, omega (arith, few, enough, length-append p out, length-drop (byte_len w) (p ++ out)));
          within = record { inside = omega arith; whole = λ i. refl };
        }
    by_length false short true less =
        let enough : byte_len w ≤ length p = ltb-false _ _ short in
        let few : length (p ++ out) < byte_len w = ltb-true _ _ less in
        absurd (omega (arith, few, enough, length-append p out))
    by_length false short false less =
        let enough : byte_len w ≤ length p = ltb-false _ _ short in
        record {
          alike = rw (take-append-le (byte_len w) p out enough, drop-append-le (byte_len w) p out enough) refl;
          within = omega (arith, length-drop (byte_len w) p);
        }

zero_reader : (e : CertError) → is_short e ≡ false → (p out : List ℕ) → Cut list out (length p) (zero_at e (p ++ out)) (zero_at e p)
unfolding zero_at
zero_reader e other p out = reads (byte_reader p out) (λ byte out. meets (byte.0 == 0) e byte.1 out other (λ _. ended byte.1 out))

zeros_reader : (e : CertError) → is_short e ≡ false → (p out : List ℕ) → Cut list out (length p) (zeros_at e (p ++ out)) (zeros_at e p)
unfolding zeros_at
zeros_reader e other p out = reads (number_reader w16 p out) (λ number out. meets (number.0 == 0) e number.1 out other (λ _. ended number.1 out))

many_reader : {A : Type 0} (one : One A) (next : A → ℕ) → ((from : ℕ) → IsReader (one from)) → (n from : ℕ) → IsReader (many_at one next n from)
unfolding many_at
many_reader one next each zero from p out = done [] p out
many_reader one next each (suc n) from p out =
    reads (each from p out) (λ first out. reads (many_reader one next each n (next first.0) first.1 out) (λ others out. done (first.0 ∷ others.0) others.1 out))

header_reader : IsReader header_at
unfolding header_at
header_reader p out =
    reads (number_reader w16 p out) (λ number out. finds (version_of number.0) error.Version number.1 out refl (λ version.
    reads (byte_reader number.1 out) (λ code out. finds (vlen_of code.0) error.Version code.1 out refl (λ vlen.
    passes (zero_reader error.Version refl code.1 out) (λ rest out. done (version, vlen) rest out)))))

parameter_reader : (from : ℕ) → IsReader (parameter_from from)
unfolding parameter_at
parameter_reader from p out =
    reads (byte_reader p out) (λ kind out. meets (nat_le kind.0 2) error.Parameter kind.1 out refl (λ _.
    reads (byte_reader kind.1 out) (λ mode out. meets (is_mode kind.0 mode.0) error.Parameter mode.1 out refl (λ _.
    passes (zeros_reader error.Parameter refl mode.1 out) (λ rest out.
    reads (number_reader w32 rest out) (λ a out. meets (is_first_number kind.0 a.0) error.Parameter a.1 out refl (λ _.
    reads (number_reader w32 a.1 out) (λ b out. meets (is_second_number kind.0 a.0 b.0) error.Parameter b.1 out refl (λ _. done _ b.1 out)))))))))

term_reader : (params : List Param) (from : ℕ) → IsReader (term_at params from)
unfolding term_at
term_reader params from p out =
    reads (byte_reader p out) (λ atom out. meets (nat_le from atom.0 && is_atom params atom.0) error.Equality atom.1 out refl (λ _.
    reads (number_reader w32 atom.1 out) (λ coefficient out. meets (nat_lt 0 coefficient.0) error.Equality coefficient.1 out refl (λ _. done _ coefficient.1 out))))

sum_reader : (params : List Param) (count : ℕ) → IsReader (sum_at params count)
unfolding sum_at
sum_reader params count p out =
    meets (nat_le count 8) error.Equality p out refl (λ _.
    reads (number_reader w32 p out) (λ constant out.
    reads (many_reader (term_at params) after_term (term_reader params) count 1 constant.1 out) (λ terms out. done _ terms.1 out)))

equality_reader : (params : List Param) (low high : ℕ) → IsReader (equality_at params low high)
unfolding equality_at none_at some_at
equality_reader params low high p out =
    reads (byte_reader p out) (λ count out. either (count.0 == 255)
    (meets (not (is_full 32 low high)) error.Fact count.1 out refl (λ _. done _ count.1 out))
    (reads (sum_reader params count.0 count.1 out) (λ sum out. done _ sum.1 out)))

fact_reader : (params : List Param) (from : ℕ) → IsReader (fact_at params from)
unfolding fact_at
fact_reader params from p out =
    reads (byte_reader p out) (λ number out. meets (nat_le from number.0 && nat_le number.0 32) error.Fact number.1 out refl (λ _.
    reads (number_reader w32 number.1 out) (λ low out.
    reads (number_reader w32 low.1 out) (λ high out. meets (nat_le low.0 high.0) error.Fact high.1 out refl (λ _.
    reads (equality_reader params low.0 high.0 high.1 out) (λ equality out. done _ equality.1 out))))))

group_reader : (from : ℕ) → IsReader (group_at from)
unfolding group_at
group_reader from p out =
    reads (byte_reader p out) (λ register out. meets (nat_le from register.0 && nat_le register.0 31) error.Fact register.1 out refl (λ _.
    reads (byte_reader register.1 out) (λ width out. meets (is_width width.0) error.Fact width.1 out refl (λ _.
    reads (byte_reader width.1 out) (λ registers out. meets (is_group register.0 registers.0) error.Fact registers.1 out refl (λ _.
    passes (zero_reader error.Fact refl registers.1 out) (λ rest out. done _ rest out)))))))

vector_reader : (vlen : Vlen) (from : ℕ) → IsReader (vector_at vlen from)
unfolding vector_at
vector_reader vlen from p out =
    reads (group_reader from p out) (λ group out.
    reads (number_reader w16 group.1 out) (λ count out. meets (is_count vlen group.0.width group.0.registers count.0) error.Fact count.1 out refl (λ _.
    passes (zeros_reader error.Fact refl count.1 out) (λ rest out.
    reads (number_reader w32 rest out) (λ low out.
    reads (number_reader w32 low.1 out) (λ high out. meets (is_interval group.0.width low.0 high.0) error.Fact high.1 out refl (λ _. done _ high.1 out)))))))

budget_reader : (version : Version) → IsReader (budget_at version)
unfolding budget_at single_at double_at
budget_reader V1 p out =
    reads (number_reader w32 p out) (λ constant out.
    reads (number_reader w32 constant.1 out) (λ factor out.
    reads (byte_reader factor.1 out) (λ register out. meets (is_budget factor.0 register.0) error.Budget register.1 out refl (λ _. done _ register.1 out))))
budget_reader V2 p out =
    reads (number_reader w32 p out) (λ constant out.
    reads (number_reader w32 constant.1 out) (λ factor out.
    reads (number_reader w32 factor.1 out) (λ second out. meets ((second.0 == 0) || nat_lt 0 factor.0) error.Budget second.1 out refl (λ _.
    reads (byte_reader second.1 out) (λ register out. meets (is_budget factor.0 register.0) error.Budget register.1 out refl (λ _.
    reads (byte_reader register.1 out) (λ other out. meets (is_second factor.0 register.0 second.0 other.0) error.Budget other.1 out refl (λ _. done _ other.1 out))))))))

vtype_reader : IsReader vtype_at
unfolding vtype_at
vtype_reader p out =
    reads (byte_reader p out) (λ known out. meets (nat_le known.0 1) error.Fact known.1 out refl (λ _.
    reads (byte_reader known.1 out) (λ vtype out. meets (is_vtype known.0 vtype.0) error.Fact vtype.1 out refl (λ _. done _ vtype.1 out))))

few_reader : IsReader few_at
unfolding few_at
few_reader p out = reads (byte_reader p out) (λ count out. meets (nat_le count.0 32) error.TooMany count.1 out refl (λ _. done _ count.1 out))

order_count_reader : (version : Version) → IsReader (order_count_at version)
unfolding order_count_at
order_count_reader V1 p out = passes (zero_reader error.TooMany refl p out) (λ one out. passes (zero_reader error.TooMany refl one out) (λ two out. done _ two out))
order_count_reader V2 p out = few_reader p out

counts_reader : (version : Version) → IsReader (counts_at version)
unfolding counts_at
counts_reader version p out =
    reads (few_reader p out) (λ registers out.
    reads (few_reader registers.1 out) (λ vectors out.
    reads (order_count_reader version vectors.1 out) (λ orders out.
    passes (zero_reader error.TooMany refl orders.1 out) (λ rest out. done _ rest out))))

order_reader : (facts : List RegisterFact) (from : ℕ) → IsReader (order_at facts from)
unfolding order_at
order_reader facts from p out =
    reads (byte_reader p out) (λ greater out. meets (is_greater facts from greater.0) error.Order greater.1 out refl (λ _.
    reads (byte_reader greater.1 out) (λ lesser out. meets (is_lesser facts greater.0 lesser.0) error.Order lesser.1 out refl (λ _. done _ lesser.1 out))))

block_reader : (version : Version) (vlen : Vlen) (params : List Param) (from : ℕ) → IsReader (block_at version vlen params from)
unfolding block_at
block_reader version vlen params from p out =
    reads (number_reader w32 p out) (λ start out. meets (nat_le from start.0 && (start.0 % 4 == 0)) error.BlockOrder start.1 out refl (λ _.
    reads (budget_reader version start.1 out) (λ budget out.
    reads (vtype_reader budget.1 out) (λ vtype out.
    reads (counts_reader version vtype.1 out) (λ counts out.
    reads (many_reader (fact_at params) after_fact (fact_reader params) counts.0.registers 1 counts.1 out) (λ registers out.
    reads (many_reader (vector_at vlen) after_vector (vector_reader vlen) counts.0.vectors 0 registers.1 out) (λ vectors out.
    reads (many_reader (order_at registers.0) after_order (order_reader registers.0) counts.0.orders 1 vectors.1 out) (λ orders out.
    meets (are_free registers.0) error.Equality orders.1 out refl (λ _. done _ orders.1 out)))))))))

count_reader : IsReader count_at
unfolding count_at
count_reader p out =
    reads (number_reader w16 p out) (λ count out. meets (nat_le count.0 1024) error.TooMany count.1 out refl (λ _.
    passes (zeros_reader error.TooMany refl count.1 out) (λ rest out. done _ rest out)))

front_reader : IsReader front_at
unfolding front_at
front_reader p out =
    reads (header_reader p out) (λ header out.
    reads (many_reader parameter_from after_parameter parameter_reader 8 0 header.1 out) (λ params out. finds (parameters_of params.0) error.Parameter params.1 out refl (λ parameters.
    reads (count_reader params.1 out) (λ count out. done _ count.1 out))))

-- ---- the whole

-- all but that nothing stands behind
abbrev Parts : Type 0
Parts = Front × List Block

abbrev parts_of : List ℕ → Result (Parts × List ℕ) Fault
parts_of bytes = front_at bytes >>= λ front. blocks_behind front.0 front.0.count front.1 >>= λ blocks. Ok ((front.0, blocks.0), blocks.1)

parts_reader : IsReader parts_of
parts_reader p out =
    reads (front_reader p out) (λ front out.
    reads (many_reader (block_at front.0.version front.0.vlen front.0.parameters) after_block (block_reader front.0.version front.0.vlen front.0.parameters) front.0.count 0 front.1 out) (λ blocks out.
    done (front.0, blocks.0) blocks.1 out))

abbrev whole_of : Parts → CertificateView
whole_of parts = record { version = parts.0.version; vlen = parts.0.vlen; parameters = parts.0.parameters; blocks = parts.1 }

abbrev finish : Result (Parts × List ℕ) Fault → Result CertificateView Fault
finish r = r >>= λ parts. nothing_at parts.1 >>= λ _. Ok (whole_of parts.0)

reading_is : (bytes : List ℕ) → reading_of bytes ≡ finish (parts_of bytes)
unfolding reading_of
reading_is bytes = by_front (front_at bytes)
  where
    by_blocks : (front : Front) (r : Result (List Block × List ℕ) Fault)
        → (r >>= λ blocks. nothing_at blocks.1 >>= λ _. Ok (whole_of (front, blocks.0))) ≡ finish (r >>= λ blocks. Ok ((front, blocks.0), blocks.1))
    by_blocks front (Ok x) = refl
    by_blocks front (Err f) = refl

    by_front : (r : Result (Front × List ℕ) Fault)
        → (r >>= λ front. blocks_behind front.0 front.0.count front.1 >>= λ blocks. nothing_at blocks.1 >>= λ _. Ok (whole_of (front.0, blocks.0)))
        ≡ finish (r >>= λ front. blocks_behind front.0 front.0.count front.1 >>= λ blocks. Ok ((front.0, blocks.0), blocks.1))
    by_front (Ok x) = by_blocks x.0 (blocks_behind x.0 x.0.count x.1)
    by_front (Err f) = refl

told_of : (bytes : List ℕ) (r : Result (Parts × List ℕ) Fault) → parts_of bytes ≡ r → certificate_of bytes ≡ result_map_both (λ c. c) (λ f. f.error) (finish r)
unfolding certificate_of
told_of bytes r is = ap (result_map_both (λ c. c) (λ f. f.error)) (reading_is bytes ∙ ap finish is)

-- what is read of the first bytes
first_of : (bytes : List ℕ) (k : ℕ) → Cut pair (drop k bytes) (length (take k bytes)) (parts_of bytes) (parts_of (take k bytes))
first_of bytes k =
    subst (λ (b : List ℕ). Cut pair (drop k bytes) (length (take k bytes)) (parts_of b) (parts_of (take k bytes))) (take-append-drop k bytes) (parts_reader (take k bytes) (drop k bytes))

within_of : (bytes : List ℕ) → IsWithin pair (length bytes) (parts_of bytes)
within_of bytes = (parts_reader bytes []).within

none_is_short : certificate_of [] ≡ Err error.Short
unfolding certificate_of reading_of front_at header_at number_at
none_is_short = refl

-- ---- the place of a fault

same_error : (x y : CertError) (r : Result CertificateView CertError) → r ≡ Err x → r ≡ Err y → x ≡ y
same_error x y r is also = cc

-- what is read of the first bytes where the parts are read so
first_alike : (bytes : List ℕ) (k : ℕ) (r : Result (Parts × List ℕ) Fault) → parts_of bytes ≡ r → AreAlike pair (drop k bytes) r (parts_of (take k bytes))
first_alike bytes k r is = subst (λ (x : Result (Parts × List ℕ) Fault). AreAlike pair (drop k bytes) x (parts_of (take k bytes))) is (first_of bytes k).alike

-- a fault among the parts
in_parts : (bytes : List ℕ) (f : Fault) → parts_of bytes ≡ Err f → IsFaultPlace bytes f.error (length bytes - f.left)
in_parts bytes f is = record {
  inside = omega arith;
  told = told_there (parts_of (take (length bytes - f.left) bytes)) refl (first_alike bytes (length bytes - f.left) (Err f) is);
  whole = λ short. (let none : f.left ≡ 0 = lies.whole (ap is_short short) in omega (arith, none));
  before = told_before (length bytes - f.left) refl;
}
  where
    lies : IsIn (length bytes) f
    lies = subst (λ (r : Result (Parts × List ℕ) Fault). IsWithin pair (length bytes) r) is (within_of bytes)

    told_there : (s : Result (Parts × List ℕ) Fault) → parts_of (take (length bytes - f.left) bytes) ≡ s
        → AreAlike pair (drop (length bytes - f.left) bytes) (Err f) s → certificate_of (take (length bytes - f.left) bytes) ≡ Err f.error
    told_there (Ok y) t alike = absurd alike
    told_there (Err g) t alike = elim alike [
      | inl same ↦ told_of (take (length bytes - f.left) bytes) (Err g) t ∙ ap (λ e. Err e) (sym same.0)
      | inr late ↦ absurd (omega (arith, late.1, lies.inside, length-drop (length bytes - f.left) bytes))
    ]

    other_before : (j : ℕ) → suc j ≡ length bytes - f.left → (s : Result (Parts × List ℕ) Fault) → parts_of (take j bytes) ≡ s
        → AreAlike pair (drop j bytes) (Err f) s → f.error ≢ error.Short → ¬ (certificate_of (take j bytes) ≡ Err f.error)
    other_before j at_place (Ok y) t alike other told = absurd alike
    other_before j at_place (Err g) t alike other told = elim alike [
      | inl same ↦ absurd (omega (arith, same.1, at_place, lies.inside, length-drop j bytes))
      | inr late ↦ other (same_error f.error g.error _ told (told_of (take j bytes) (Err g) t) ∙ ap (λ (h : Fault). h.error) late.0)
    ]

    told_before : (k : ℕ) → k ≡ length bytes - f.left → f.error ≢ error.Short → ¬ (certificate_of (take (k - 1) bytes) ≡ Err f.error)
    told_before zero at_place other told =
        let first : zero - 1 ≡ 0 = omega arith in
        let none : certificate_of [] ≡ Err f.error = subst (λ (j : ℕ). certificate_of (take j bytes) ≡ Err f.error) first told in
        other (same_error f.error error.Short _ none none_is_short)
    told_before (suc j) at_place other told =
        let first : suc j - 1 ≡ j = omega arith in
        other_before j at_place (parts_of (take j bytes)) refl (first_alike bytes j (Err f) is) other (subst (λ (i : ℕ). certificate_of (take i bytes) ≡ Err f.error) first told)

one_left : (rest : List ℕ) → length rest ≡ 1 → nothing_at rest ≡ Err (fault_of error.TrailingBytes [])
one_left [] is = absurd (omega (arith, is))
one_left (b ∷ []) is = refl
one_left (b ∷ c ∷ rest) is = absurd (omega (arith, is))

-- a byte behind the parts
behind_parts : (bytes : List ℕ) (f : Fault) (x : Parts × List ℕ) → parts_of bytes ≡ Ok x → f.error ≡ error.TrailingBytes → length x.1 ≡ f.left + 1 → IsFaultPlace bytes f.error (length bytes - f.left)
behind_parts bytes f x is trailing one = record {
  inside = omega arith;
  told = told_there (parts_of (take (length bytes - f.left) bytes)) refl (first_alike bytes (length bytes - f.left) (Ok x) is);
  whole = λ short. absurd (let both : error.TrailingBytes ≡ error.Short = sym trailing ∙ short in cc);
  before = λ other told. whole_before (parts_of (take (length bytes - f.left - 1) bytes)) refl (first_alike bytes (length bytes - f.left - 1) (Ok x) is) told;
}
  where
    few : length x.1 ≤ length bytes
    few = subst (λ (r : Result (Parts × List ℕ) Fault). IsWithin pair (length bytes) r) is (within_of bytes)

    left_of : (y : Parts × List ℕ) (out : List ℕ) → x ≡ (y.0, y.1 ++ out) → length x.1 ≡ length y.1 + length out
    left_of y out same = ap (λ (z : Parts × List ℕ). length z.1) same ∙ length-append y.1 out

    told_there : (s : Result (Parts × List ℕ) Fault) → parts_of (take (length bytes - f.left) bytes) ≡ s
        → AreAlike pair (drop (length bytes - f.left) bytes) (Ok x) s → certificate_of (take (length bytes - f.left) bytes) ≡ Err f.error
    told_there (Ok y) t alike =
        let last : length y.1 ≡ 1 = omega (arith, one, few, left_of y _ alike, length-drop (length bytes - f.left) bytes) in
        told_of (take (length bytes - f.left) bytes) (Ok y) t ∙ rw (one_left y.1 last, trailing) refl
    told_there (Err g) t alike = absurd (omega (arith, one, few, alike.1, length-drop (length bytes - f.left) bytes))

    whole_before : (s : Result (Parts × List ℕ) Fault) → parts_of (take (length bytes - f.left - 1) bytes) ≡ s
        → AreAlike pair (drop (length bytes - f.left - 1) bytes) (Ok x) s → ¬ (certificate_of (take (length bytes - f.left - 1) bytes) ≡ Err f.error)
    whole_before (Ok y) t alike told =
        let none : length y.1 ≡ 0 = omega (arith, one, few, left_of y _ alike, length-drop (length bytes - f.left - 1) bytes) in
        let read : certificate_of (take (length bytes - f.left - 1) bytes) ≡ Ok (whole_of y.0) = told_of (take (length bytes - f.left - 1) bytes) (Ok y) t ∙ rw (nil_from_length y.1 none) refl in
        absurd (cc)
    whole_before (Err g) t alike told = absurd (omega (arith, one, few, alike.1, length-drop (length bytes - f.left - 1) bytes))

pub fault_place : (bytes : List ℕ) (f : Fault) → reading_of bytes ≡ Err f → IsFaultPlace bytes f.error (length bytes - f.left)
fault_place bytes f e = by_parts (parts_of bytes) refl (sym (reading_is bytes) ∙ e)
  where
    by_rest : (x : Parts × List ℕ) (rest : List ℕ) → x.1 ≡ rest → parts_of bytes ≡ Ok x → (nothing_at rest >>= λ _. Ok (whole_of x.0)) ≡ Err f → IsFaultPlace bytes f.error (length bytes - f.left)
    by_rest x [] same is h = absurd (cc)
    by_rest x (b ∷ rest) same is h =
        let there : fault_of error.TrailingBytes rest ≡ f = cc in
        behind_parts bytes f x is (ap (λ (g : Fault). g.error) (sym there)) (ap length same ∙ (let left = ap (λ (g : Fault). g.left) there in omega (arith, left)))

    by_parts : (r : Result (Parts × List ℕ) Fault) → parts_of bytes ≡ r → finish r ≡ Err f → IsFaultPlace bytes f.error (length bytes - f.left)
    by_parts (Err g) is h = in_parts bytes f (is ∙ (let same : g ≡ f = cc in ap (λ (d : Fault). Err d) same))
    by_parts (Ok x) is h = by_rest x x.1 refl is h
