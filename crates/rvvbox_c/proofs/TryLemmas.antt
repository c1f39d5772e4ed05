-- What stands at the places of a try matches what it is taken as.
use Rattle.std.proofs.Common.{◌≡◌, ◌≤◌, ℕ, List, [], ◌∷◌, Bool, true, false, ◌⊎◌, inl, inr, refl, arith, length, IfNone, IfOk, IfSome, Option, Some, None, Result, Ok, Err}
use Rattle.std.specs.Prelude.{◌==◌, ◌&&◌, nat_le, nat_lt, if◌then◌else◌, min, position}
use Rattle.std.specs.Option.{option_map, option_or}
use Rattle.std.specs.List.{list_all, position_or_len, zip}
use Rattle.std.proofs.lemmas.Bool.Decides.{nat_tests}
use Rattle.elf_image.specs.Faults.{fault_of}
use Rattle.elf_image.specs.File.{image_of}
use Rattle.elf_image.specs.Image.{ImageView}
use Rattle.elf_image.specs.declared.error.ElfError.{ElfError}
use Rattle.vreg_groups.specs.VectorLength.{vlenb_of}
use Rattle.vreg_groups.specs.declared.policies.Agnostic.{Agnostic}
use Rattle.vreg_groups.specs.declared.vector_length.Vlen.{Vlen}
use Rattle.region_mem.specs.Parameter.{Argument, AreArguments, argument_error, is_valid, is_wrong_kind, is_out_of_interval, is_wrong_size, parameters_of}
use Rattle.region_mem.specs.declared.arguments.Arg.TheVariants as arg
use Rattle.region_mem.specs.declared.parameter.Mode.TheVariants.{Read, ReadWrite}
use Rattle.region_mem.specs.declared.parameter.Param.{Param}
use Rattle.region_mem.specs.declared.parameter.Param.TheVariants as param
use Rattle.rvvbox_c.specs.Answers.{IsTryAnswer}
use Rattle.rvvbox_c.specs.Accept.{agnostic_at, vlen_at}
use Rattle.rvvbox_c.specs.Forms.{all_in, argument_in, forms_of}
use Rattle.rvvbox_c.specs.Status.{IsRefused, image_refusal, plain}
use Rattle.rvvbox_c.specs.Tries.{IsTry, param_in, params_in, size_in, tried_from}
use Rattle.rvvbox_c.specs.declared.calls.Setting.{Setting}
use Rattle.rvvbox_c.specs.declared.forms.Forms.{Forms}
use Rattle.rvvbox_c.specs.declared.tries.Tried.{Tried}
use Rattle.rvvbox_c.specs.declared.forms.Form.{Form}
use Rattle.rvvbox_c.specs.declared.status.Refusal.{Refusal}
use Rattle.rvvbox_c.specs.declared.status.Status.TheVariants.{NoMemory}

both : (a b : Bool) → (a && b) ≡ true → (a ≡ true) × (b ≡ true)
both true b e = (refl, e)
both false b e = absurd (cc)

least : (n : ℕ) → min n 0xFFFF_FFFF ≤ 0x100_0000 → min n 0xFFFF_FFFF ≡ n
least n e = grind (arith, nat_tests)

same_size : (n : ℕ) → nat_le (min n 0xFFFF_FFFF) 0x100_0000 ≡ true → (n == min n 0xFFFF_FFFF) ≡ true
same_size n e =
    let small : min n 0xFFFF_FFFF ≤ 0x100_0000 = grind (arith, nat_tests) in
    let is : min n 0xFFFF_FFFF ≡ n = least n small in
    rw is (grind (arith, nat_tests))

module _ (form : Form) (read put : List ℕ) where
  -- what a form is taken as, and what is passed there
  abbrev tried : Bool → Bool → Bool → Param × Argument
  tried z o r = (
    (if z then param.None
        else (if o then param.Scalar form.value form.value
        else (if r then param.Buffer Read (size_in read) else param.Buffer ReadWrite (size_in put)))),
    (if z then arg.None else (if o then arg.Scalar form.value else (if r then arg.Buffer read else arg.Buffer put))),
  )

  right_kind : (z o r : Bool) → is_wrong_kind (tried z o r) ≡ false
  unfolding is_wrong_kind
  right_kind true o r = refl
  right_kind false true r = refl
  right_kind false false true = refl
  right_kind false false false = refl

  in_interval : (z o r : Bool) → is_out_of_interval (tried z o r) ≡ false
  unfolding is_out_of_interval
  in_interval true o r = refl
  in_interval false true r = let there : nat_le form.value form.value ≡ true = grind (arith, nat_tests) in rw there refl
  in_interval false false true = refl
  in_interval false false false = refl

  right_size : (z o r : Bool) → is_valid (tried z o r).0 ≡ true → is_wrong_size (tried z o r) ≡ false
  unfolding is_wrong_size is_valid
  right_size true o r valid = refl
  right_size false true r valid = refl
  right_size false false true valid = rw (same_size (length read) valid) refl
  right_size false false false valid = rw (same_size (length put) valid) refl

-- a test that fails at each place finds none
module _ (test : Param × Argument → Bool)
    (each : (form : Form) (read put : List ℕ) → is_valid (param_in form read put) ≡ true → test (param_in form read put, argument_in form read put) ≡ false) where
  abbrev pairs : List Form → List (List ℕ) → List (List ℕ) → List (Param × Argument)
  pairs forms reads puts = zip (params_in forms reads puts) (all_in forms reads puts)

  to_the_end : (forms : List Form) (reads puts : List (List ℕ)) → list_all is_valid (params_in forms reads puts) ≡ true
      → position_or_len test (pairs forms reads puts) ≡ length (pairs forms reads puts)
  to_the_end [] reads puts valid = refl
  to_the_end (form ∷ forms) [] puts valid = refl
  to_the_end (form ∷ forms) (read ∷ reads) [] valid = refl
  to_the_end (form ∷ forms) (read ∷ reads) (put ∷ puts) valid =
      let all = both (is_valid (param_in form read put)) (list_all is_valid (params_in forms reads puts)) valid in
      rw (each form read put all.0, to_the_end forms reads puts all.1) (omega arith)

  finds_none : (forms : List Form) (reads puts : List (List ℕ)) → list_all is_valid (params_in forms reads puts) ≡ true
      → position test (pairs forms reads puts) ≡ None
  finds_none forms reads puts valid =
      let past : nat_lt (length (pairs forms reads puts)) (length (pairs forms reads puts)) ≡ false = grind (arith, nat_tests) in
      rw (to_the_end forms reads puts valid, past) refl

-- what the forms name is what they are taken as
match_valid : (forms : List Form) (reads puts : List (List ℕ)) → list_all is_valid (params_in forms reads puts) ≡ true
    → AreArguments (params_in forms reads puts) (all_in forms reads puts)
unfolding argument_error
match_valid forms reads puts valid =
    let kinds = finds_none is_wrong_kind (λ form read put e. right_kind form read put (form.kind == 0) (form.kind == 1) (form.kind == 3)) forms reads puts valid in
    let intervals = finds_none is_out_of_interval (λ form read put e. in_interval form read put (form.kind == 0) (form.kind == 1) (form.kind == 3)) forms reads puts valid in
    let sizes = finds_none is_wrong_size (λ form read put e. right_size form read put (form.kind == 0) (form.kind == 1) (form.kind == 3) e) forms reads puts valid in
    rw (kinds, intervals, sizes) refl

-- what is so of the parameters where they are valid is so of those that are taken
chosen : (P : List Param → Type 0) (valid : Bool) (params : List Param) → (valid ≡ true → P params) → IfSome (if valid then Some params else None) P
chosen P true params is = is refl
chosen P false params is = tt

pub taken_are : (forms : List Form) (reads puts : List (List ℕ)) → IfSome (parameters_of (params_in forms reads puts)) (λ p. p ≡ params_in forms reads puts)
unfolding parameters_of
taken_are forms reads puts =
    chosen (λ p. p ≡ params_in forms reads puts) (list_all is_valid (params_in forms reads puts)) (params_in forms reads puts) (λ valid. refl)

pub args_match : (forms : List Form) (reads puts : List (List ℕ))
    → IfSome (parameters_of (params_in forms reads puts)) (λ p. AreArguments p (all_in forms reads puts))
unfolding parameters_of
args_match forms reads puts =
    chosen (λ p. AreArguments p (all_in forms reads puts)) (list_all is_valid (params_in forms reads puts)) (params_in forms reads puts)
    (match_valid forms reads puts)

-- a try's refusal, or want of memory, is its answer
pub is_answer : (x : Option Refusal) (told : Refusal) → (x ≡ Some told) ⊎ (told ≡ plain NoMemory) → IsTryAnswer x told
is_answer (Some t) told (inl e) = inl (cc)
is_answer None told (inl e) = absurd (cc)
is_answer (Some t) told (inr e) = inr e
is_answer None told (inr e) = inr e

-- an image that is read is that of a file without fault
pub no_fault : (fault : Option ElfError) (image : ImageView) → IfSome fault (λ (e : ElfError). Ok image ≡ Err e) → fault ≡ None
no_fault None image told = refl
no_fault (Some e) image told = absurd (cc)

pub where_none : (A : Type 0) (fault : Option ElfError) → fault ≡ None → IfNone fault A → A
where_none A None none there = there
where_none A (Some e) none there = absurd (cc)

-- what comes later is all, where nothing is refused before
pub none_before : {A : Type 0} (asked : Option Refusal) (fault : Option ElfError) (x : Option Refusal) (r : Result A Refusal)
    → asked ≡ None → fault ≡ None → IsRefused x r → IsRefused (option_or (option_or asked (option_map image_refusal fault)) x) r
none_before None None x r none nothing is = is
none_before (Some t) fault x r none nothing is = absurd (cc)
none_before None (Some e) x r none nothing is = absurd (cc)

pub try_of : (file : List ℕ) (setting : Setting) (forms : Forms) (reads puts : List (List ℕ)) (vlen : Vlen) (agnostic : Agnostic) (image : ImageView)
    (r : Result Tried Refusal) → fault_of file ≡ None → image ≡ image_of file → vlen_at setting.vlen ≡ Some vlen
    → agnostic_at setting.agnostic ≡ Some agnostic
    → IfOk r (λ tried. tried ≡ tried_from (vlenb_of vlen) agnostic setting.max image (params_in (forms_of forms) reads puts) (all_in (forms_of forms) reads puts))
    → IfOk r (IsTry file setting forms reads puts)
try_of file setting forms reads puts vlen agnostic image (Ok tried) faultless is bits numbered run = record {
  faultless = faultless;
  vlen = vlen;
  bits = bits;
  agnostic = agnostic;
  numbered = numbered;
  run = rw (← is) run;
}
try_of file setting forms reads puts vlen agnostic image (Err told) faultless is bits numbered run = tt
