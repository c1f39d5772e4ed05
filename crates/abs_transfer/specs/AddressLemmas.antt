-- The address of an access lies in its range.
use Rattle.std.proofs.Common.{◌≡◌, ◌≢◌, ◌<◌, ◌+◌, ◌%◌, ◌^◌, ℕ, arith, sym, ap, ◌∙◌, subst, length}
use Rattle.std.proofs.lemmas.Bool.Decides.{nat_tests}
use Rattle.linear_facts.specs.Forms.{Linear, value, IsForm, number_form}
use Rattle.linear_facts.specs.Sums.{range_of_form}
use Rattle.linear_facts.specs.FormLemmas.{value-sum_of, length-sum_of, sum_of-IsForm, number-IsForm}
use Rattle.vreg_groups.specs.declared.vector_length.Vconfig.{Vconfig}
use Rattle.scalar_core.specs.Hart.{Hart, reg_of}
use Rattle.scalar_core.specs.Arithmetic.{unsigned}
use Rattle.scalar_core.specs.StateLemmas.{immediate_fits}
use Rattle.abs_domain.specs.Numbers.{NumbersView, table_of, value_at}
use Rattle.abs_domain.specs.Effects.{offset_form, offset_range}
use Rattle.abs_domain.specs.Described.{IsNumber}
use Rattle.abs_domain.specs.Holds.{number_of, Holds}
use Rattle.abs_transfer.specs.Scalar.{address_range}
use Rattle.abs_transfer.specs.Addresses.{AddressesLie}
use Rattle.abs_domain.specs.OperationLemmas.{offset_lies, value_number}
use Rattle.abs_domain.specs.StateLemmas.{computed_lies, form_range_lies}

offset_form-IsForm : (f : Linear) (m : ℕ) → IsForm 8 f → m < 2 ^ 32 → IsForm 8 (offset_form f m)
unfolding offset_form
offset_form-IsForm f m h l =
    sum_of-IsForm 8 0 8 f (number_form m) h (number-IsForm 0 m l) (omega (arith, length-sum_of f (number_form m), h.has_room))

offset_form-value : (v : ℕ → ℕ) (f : Linear) (m x : ℕ) → x ≡ value v f → m < 2 ^ 32 → (x + m) % 2 ^ 32 ≡ value v (offset_form f m)
unfolding offset_form
offset_form-value v f m x e l =
    ap (λ (z : ℕ). (z + m) % 2 ^ 32) e
    ∙ (ap (λ (z : ℕ). (value v f + z) % 2 ^ 32) (value_number v m l) ∙ sym (value-sum_of v f (number_form m)))

-- a register's number is its own
pub register_number : (i : ℕ) (h : Hart) (config : Vconfig) → i < 32 → number_of i h config ≡ reg_of i h
register_number i h config l = (let ne : i ≢ 32 = λ e. omega (arith, e, l) in grind (arith, nat_tests))

-- so is what is known of it
pub register_holds : (s : NumbersView) (v : ℕ → ℕ) (h : Hart) (config : Vconfig) → Holds s v h config → (i : ℕ) → i < 32
    → IsNumber (length s.atoms) v (value_at s i) (reg_of i h)
register_holds s v h config holds i l =
    subst (λ (z : ℕ). IsNumber (length s.atoms) v (value_at s i) z) (register_number i h config l) (holds.each i (omega (arith, l)))

pub address_lies : AddressesLie
unfolding address_range
address_lies s v h config rs1 offset holds l fits =
    let m = unsigned offset in
    let small : m < 2 ^ 32 = immediate_fits offset fits in
    let base = register_holds s v h config holds rs1 l in
    computed_lies ((reg_of rs1 h + m) % 2 ^ 32) (offset_range m (value_at s rs1).range)
    (range_of_form (table_of s) (offset_form (value_at s rs1).form m)) (omega arith)
    (offset_lies (value_at s rs1).range (reg_of rs1 h) m base.lies small)
    (form_range_lies (table_of s) (offset_form (value_at s rs1).form m) v ((reg_of rs1 h + m) % 2 ^ 32) holds.atoms
    (offset_form-IsForm (value_at s rs1).form m base.means.form small)
    (offset_form-value v (value_at s rs1).form m (reg_of rs1 h) base.means.number small))
