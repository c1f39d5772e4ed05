-- What the registers hold at the start of a run is what the bound takes them for.
use Rattle.std.proofs.Common.{◌≡◌, ◌<◌, ℕ, false, arith, refl, sym, ap, ◌∙◌, List, length, get_or, Option, Some, None}
use Rattle.std.specs.Prelude.{slice_index}
use Rattle.std.specs.List.{slice_get}
use Rattle.std.specs.Option.{option_map}
use Rattle.std.proofs.lemmas.Option.{slice_get-get_or, slice_get-map, get_or_from_slice_get}
use Rattle.region_mem.specs.declared.parameter.Param.{Param}
use Rattle.region_mem.specs.declared.parameter.Param.TheVariants as parameter
use Rattle.region_mem.specs.declared.arguments.Arg.TheVariants as argument
use Rattle.region_mem.specs.Parameter.{Argument, is_wrong_kind, AreArguments}
use Rattle.region_mem.specs.MatchingLemmas.{nothing_wrong}
use Rattle.scalar_core.specs.declared.entry.EntryValue.{EntryValue}
use Rattle.scalar_core.specs.declared.entry.EntryValue.TheVariants.{Number, Passed}
use Rattle.scalar_core.specs.Entry.{entry_value, number_with}
use Rattle.scalar_core.specs.Hart.{reg_of}
use Rattle.scalar_core.specs.EntryLemmas.{entry_place, reg_of-entry_hart}
use Rattle.machine.specs.Start.{passed_at, passed_number, start_hart}
use Rattle.abs_domain.specs.Starts.{passed_value, start_value, value_for}
use Rattle.abs_state.specs.EntryLemmas.{pair_at}
use Rattle.abs_state.specs.Held.{budget_at}
use Rattle.cert_note.specs.declared.values.Block.{Block}
use Rattle.cert_note.specs.declared.values.Budget.{Budget}
use Rattle.block_checker.specs.Bound.{bound_in, scalar_of, scalars_of, start_number}

-- ---- the budget

-- the bound is that of the budget of the block that is there
pub bound_by : (params : List Param) (scalars : List ℕ) (block : Option Block) (budget : Budget) → option_map (λ b. b.budget) block ≡ Some budget
    → bound_in params scalars block ≡ budget_at budget (start_number params scalars)
unfolding bound_in
bound_by params scalars None budget is = cc
bound_by params scalars (Some block) budget is =
    let same : block.budget ≡ budget = cc in
    ap (λ (b : Budget). budget_at b (start_number params scalars)) same

-- ---- what is passed

passed-is : (params : List Param) (scalars : List ℕ) (place : ℕ) (param : Param) (arg : Argument) → is_wrong_kind (param, arg) ≡ false
    → slice_index scalars place ≡ scalar_of arg
    → passed_number params place arg ≡ number_with (slice_index scalars) (passed_value params place (Some param))
unfolding passed_number passed_value is_wrong_kind
passed-is params scalars place parameter.None argument.None right is = refl
passed-is params scalars place parameter.None (argument.Scalar value) right is = absurd (let bad : ⊥ = cc in bad)
passed-is params scalars place parameter.None (argument.Buffer bytes) right is = absurd (let bad : ⊥ = cc in bad)
passed-is params scalars place (parameter.Scalar lo hi) argument.None right is = absurd (let bad : ⊥ = cc in bad)
passed-is params scalars place (parameter.Scalar lo hi) (argument.Scalar value) right is = sym is
passed-is params scalars place (parameter.Scalar lo hi) (argument.Buffer bytes) right is = absurd (let bad : ⊥ = cc in bad)
passed-is params scalars place (parameter.Buffer mode size) argument.None right is = absurd (let bad : ⊥ = cc in bad)
passed-is params scalars place (parameter.Buffer mode size) (argument.Scalar value) right is = absurd (let bad : ⊥ = cc in bad)
passed-is params scalars place (parameter.Buffer mode size) (argument.Buffer bytes) right is = refl

scalar-at : (args : List Argument) (i : ℕ) (arg : Argument) → slice_get args i ≡ Some arg → slice_index (scalars_of args) i ≡ scalar_of arg
scalar-at args i arg e =
    get_or_from_slice_get (scalars_of args) i (scalar_of arg) 0 (slice_get-map scalar_of args i ∙ ap (option_map scalar_of) e)

-- ---- all registers

module _ (entry : ℕ) (params : List Param) (args : List Argument) (eight : length params ≡ 8) (count : length args ≡ 8)
    (matching : AreArguments params args) where
  argument-is : (i : ℕ) → i < 8
      → passed_at params args i ≡ number_with (slice_index (scalars_of args)) (passed_value params i (slice_get params i))
  argument-is i l =
      let param = get_or params i parameter.None in
      let arg = get_or args i argument.None in
      let p : slice_get params i ≡ Some param = slice_get-get_or params i parameter.None (omega (arith, l, eight)) in
      let a : slice_get args i ≡ Some arg = slice_get-get_or args i argument.None (omega (arith, l, count)) in
      let right : is_wrong_kind (param, arg) ≡ false =
      pair_at is_wrong_kind params args i (nothing_wrong params args matching).0 (omega (arith, l, eight)) (omega (arith, l, count)) in
      passed-is params (scalars_of args) i param arg right (scalar-at args i arg a)
      ∙ ap (λ o. number_with (slice_index (scalars_of args)) (passed_value params i o)) (sym p)

  -- the register of any number, as the bound takes it
  pub start-is : (r : ℕ) → r < 32 → reg_of r (start_hart entry params args) ≡ start_number params (scalars_of args) r
  unfolding start_hart start_value
  start-is r below = reg_of-entry_hart entry (passed_at params args) r below ∙ by_value (entry_value r) refl
    where
      by_value : (v : EntryValue) → entry_value r ≡ v
          → number_with (passed_at params args) v ≡ number_with (slice_index (scalars_of args)) (value_for params v)
      by_value (Number number) e = refl
      by_value (Passed place) e = argument-is place (entry_place r place e)
