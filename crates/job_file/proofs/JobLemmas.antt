-- What the proofs about job files share.
use Rattle.std.proofs.Common.{◌≡◌, ◌∙◌, ◌<◌, ap, refl, sym, ℕ, zero, suc, List, [], ◌∷◌, map, length, get_or, Option, Some, None, is_some, IfSome, IfNone, option_map, option_and_then, if◌then◌else◌, nat_lt, String, Global, string_bytes, Bor, Result, Ok, Err, inl, inr, arith, lt-ltb, ltb-true}
use Rattle.std.proofs.lemmas.Bool.{cases_lt, false≢true}
use Rattle.std.specs.Map.{keys_of}
use Rattle.toml.specs.Data.{get_item}
use Rattle.toml.specs.View.{items_view, members_view, view}
use Rattle.toml.specs.declared.value.Value.{Value}
use Rattle.toml.proofs.Views.{Entry, get_item_past, get_item_within}
use Rattle.job_file.specs.Job.{Breach, Text, all_kept, all_there, first_unknown, is_one_of, job_lent, param_lent, places}
use Rattle.job_file.specs.Needs.{runnable, runnable_lent, runnable_of, taken_of}
use Rattle.job_file.specs.declared.keys.JobKey.{JobKey}
use Rattle.job_file.specs.declared.values.Job.{Job}
use Rattle.job_file.specs.declared.values.JobParam.{JobParam}
use Rattle.job_file.specs.declared.values.JobParam.TheVariants as param
use Rattle.job_file.specs.declared.values.Places.{Places}
use Rattle.vreg_groups.specs.declared.policies.Agnostic.{Agnostic}
use Rattle.vreg_groups.specs.declared.vector_length.Vlen.{Vlen}

-- the first key of a map that is none of these
abbrev pub unknown_of : List JobKey → List (String Global) → Option Text
unknown_of known [] = None
unknown_of known (k ∷ ks) = if is_one_of known (string_bytes k) then unknown_of known ks else Some (string_bytes k)

-- the same of its table's members
pub unknown_of-keys_of : (known : List JobKey) (es : List Entry)
    → unknown_of known (keys_of es) ≡ first_unknown known (members_view es)
unfolding first_unknown
unknown_of-keys_of known [] = refl
unknown_of-keys_of known (e ∷ es) =
    ap (λ (r : Option Text). if is_one_of known (string_bytes e.0) then r else Some (string_bytes e.0)) (unknown_of-keys_of known es)

-- an item of an array, as a look-up by its place finds it
pub item_found : (r : Option (Bor Value)) (vs : List Value) (i : ℕ) → is_some r ≡ nat_lt i (length vs)
    → IfSome r (λ x. x.now ≡ get_or vs i x.now) → option_map (λ v. view v.now) r ≡ get_item i (items_view vs)
item_found None vs i found at = elim (cases_lt i (length vs)) [
  | inl inside ↦ absurd (false≢true (found ∙ lt-ltb i (length vs) inside))
  | inr past ↦ get_item_past vs i past
]
item_found (Some x) vs i found at =
    let inside : i < length vs = ltb-true i (length vs) (sym found) in
    ap (λ (v : Value). Some (view v)) at ∙ get_item_within vs i x.now inside

-- ---- the eight places

-- eight parameters, place by place
pub eight_there : {A B : Type 0} (view : B → A) (f : ℕ → Result A Breach) (b : B) (params : List B) → length params ≡ 8
    → ((k : ℕ) → k < 8 → f k ≡ Ok (view (get_or params k b))) → all_kept (map f places) ≡ Ok (map view params)
eight_there view f z (a ∷ b ∷ c ∷ d ∷ e ∷ g ∷ h ∷ i ∷ []) len at =
    rw (at 0 (omega arith), at 1 (omega arith), at 2 (omega arith), at 3 (omega arith), at 4 (omega arith), at 5 (omega arith), at 6 (omega arith), at 7 (omega arith))
eight_there view f z params len at = absurd (omega arith)

-- the first of eight that breaks a rule
pub eight_stopped : {A : Type 0} (g : ℕ → A) (f : ℕ → Result A Breach) (e : Breach) (k : ℕ) → k < 8
    → ((j : ℕ) → j < k → f j ≡ Ok (g j)) → f k ≡ Err e → all_kept (map f places) ≡ Err e
eight_stopped g f e zero below at here = rw here
eight_stopped g f e (suc zero) below at here = rw (at 0 (omega arith), here)
eight_stopped g f e (suc (suc zero)) below at here = rw (at 0 (omega arith), at 1 (omega arith), here)
eight_stopped g f e (suc (suc (suc zero))) below at here = rw (at 0 (omega arith), at 1 (omega arith), at 2 (omega arith), here)
eight_stopped g f e (suc (suc (suc (suc zero)))) below at here =
    rw (at 0 (omega arith), at 1 (omega arith), at 2 (omega arith), at 3 (omega arith), here)
eight_stopped g f e (suc (suc (suc (suc (suc zero))))) below at here =
    rw (at 0 (omega arith), at 1 (omega arith), at 2 (omega arith), at 3 (omega arith), at 4 (omega arith), here)
eight_stopped g f e (suc (suc (suc (suc (suc (suc zero)))))) below at here =
    rw (at 0 (omega arith), at 1 (omega arith), at 2 (omega arith), at 3 (omega arith), at 4 (omega arith), at 5 (omega arith), here)
eight_stopped g f e (suc (suc (suc (suc (suc (suc (suc zero))))))) below at here =
    rw (at 0 (omega arith), at 1 (omega arith), at 2 (omega arith), at 3 (omega arith), at 4 (omega arith), at 5 (omega arith), at 6 (omega arith), here)
eight_stopped g f e (suc (suc (suc (suc (suc (suc (suc (suc k)))))))) below at here = absurd (omega arith)

module _ {A B C D : Type 0} (f : B → Option C) (h : A → B) (g : D → C) (a : A) (d : D) where
  -- each value is there
  pub all_there-each : (xs : List A) (ys : List D) → length xs ≡ length ys
      → ((k : ℕ) → k < length ys → f (h (get_or xs k a)) ≡ Some (g (get_or ys k d)))
      → all_there (map f (map h xs)) ≡ Some (map g ys)
  all_there-each [] [] same at = refl
  all_there-each [] (y ∷ ys) same at = absurd (omega (arith, same))
  all_there-each (x ∷ xs) [] same at = absurd (omega (arith, same))
  all_there-each (x ∷ xs) (y ∷ ys) same at =
      let first : f (h x) ≡ Some (g y) = at 0 (omega arith) in
      let rest = all_there-each xs ys (omega (arith, same)) (λ k below. at (suc k) (omega (arith, below))) in
      rw (first, rest) refl

  -- one value is not there
  pub all_there-missing : (xs : List A) (k : ℕ) → k < length xs → f (h (get_or xs k a)) ≡ None → all_there (map f (map h xs)) ≡ None
  all_there-missing [] k below none = absurd (omega (arith, below))
  all_there-missing (x ∷ xs) zero below none = rw none refl
  all_there-missing (x ∷ xs) (suc k) below none = before (f (h x)) (all_there-missing xs k (omega (arith, below)) none)
    where
      before : (o : Option C) → all_there (map f (map h xs)) ≡ None
          → option_and_then (λ y. option_map (λ rest. y ∷ rest) (all_there (map f (map h xs)))) o ≡ None
      before None e = refl
      before (Some y) e = rw e refl

  -- what is taken of each of eight, or of one of them nothing: a call has its argument beside what it gives
  pub all_there-each_place : (seen : Places D → List C) → ((p : Places D) → seen p ≡ map g p.at) → (xs : List A) (r : Option (Places D)) → length xs ≡ 8
      → IfSome r (λ p. (length p.at ≡ 8) × ((k : ℕ) → k < 8 → A × (Some (g (get_or p.at k d)) ≡ f (h (get_or xs k a)))))
      → IfNone r ((k : ℕ) × (k < 8) × (A × (None ≡ f (h (get_or xs k a))))) → option_map seen r ≡ all_there (map f (map h xs))
  all_there-each_place seen same xs None len taken (k, below, (arg, none)) = sym (all_there-missing xs k (omega (arith, len, below)) (sym none))
  all_there-each_place seen same xs (Some p) len (eight, each) missing =
      ap Some (same p) ∙ sym (all_there-each xs p.at (len ∙ sym eight) (λ k below. sym (each k (omega (arith, eight, below))).1))

-- ---- a job that can be run

-- with texts that are lent, it is the one of the texts
pub runnable-lent : {P Q : Type 0} (lent : P → Q) (image : Option (Bor Text)) (vlen : Option Vlen) (agnostic : Option Agnostic) (max : Option ℕ)
    (params : Option (Places P)) (taken : Option (List Q)) → option_map (λ p. map lent p.at) params ≡ taken
    → option_map (runnable_lent lent) (runnable image vlen agnostic max (option_map (λ p. p.at) params)) ≡ runnable (option_map (λ s. s.now) image) vlen agnostic max taken
runnable-lent lent None vlen agnostic max params taken same = refl
runnable-lent lent (Some image) None agnostic max params taken same = refl
runnable-lent lent (Some image) (Some vlen) None max params taken same = refl
runnable-lent lent (Some image) (Some vlen) (Some agnostic) None params taken same = refl
runnable-lent lent (Some image) (Some vlen) (Some agnostic) (Some max) None taken same = rw (← same) refl
runnable-lent lent (Some image) (Some vlen) (Some agnostic) (Some max) (Some params) taken same = rw (← same) refl

-- what is taken of each of its parameters is beside the rest of it
pub runnable-each_place : {P Q : Type 0} (take : JobParam Text → Option Q) (lent : P → Q) (none : P) (j : Job (Bor Text)) (r : Option (Places P))
    → length j.params ≡ 8
    → IfSome r (λ p. (length p.at ≡ 8)
    × ((k : ℕ) → k < 8 → JobParam (Bor Text) × (Some (lent (get_or p.at k none)) ≡ take (param_lent (get_or j.params k param.None)))))
    → IfNone r ((k : ℕ) × (k < 8) × (JobParam (Bor Text) × (None ≡ take (param_lent (get_or j.params k param.None)))))
    → option_map (runnable_lent lent) (runnable j.image j.vlen j.agnostic j.max (option_map (λ p. p.at) r)) ≡ runnable_of take (job_lent j)
unfolding taken_of
runnable-each_place take lent none j r len taken missing =
    runnable-lent lent j.image j.vlen j.agnostic j.max r (taken_of take (map param_lent j.params))
    (all_there-each_place take param_lent lent param.None none (λ p. map lent p.at) (λ p. refl) j.params r len taken missing)
