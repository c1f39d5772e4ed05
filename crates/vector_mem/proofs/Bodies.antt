-- What a load or store of a body that lies in a row comes to.
use Rattle.std.proofs.Common.{◌≡◌, ℕ, ◌<◌, Bool, true, false, List, None, Ok, Option, replicate, ap, sym, ◌∙◌, refl, arith, subst}
use Rattle.std.proofs.lemmas.Bool.Decides.{nat_tests}
use Rattle.std.specs.Prelude.{◌==◌, if◌then◌else◌}
use Rattle.region_mem.specs.Memory.{Memory}
use Rattle.vreg_groups.specs.Elements.{active_of}
use Rattle.vector_mem.specs.declared.plan.Access.{Access}
use Rattle.vector_mem.specs.Accesses.{first_refused, loaded, stored}
use Rattle.vector_mem.specs.Transfers.{accesses_of, data_of, is_in_a_row, is_masked, load_policy, loaded_to, moved_of, unless_refused, vector_load, vector_store}
use Rattle.vector_mem.specs.Words.{Addressing, Indexed, LoadFault, Mask, Setup, Span, StoreFault, Strided, Unit, VMem, Whole, body_of, written}

not_masked : (place : Addressing) → is_in_a_row place ≡ true → is_masked place ≡ false
not_masked (Unit width false) h = refl
not_masked (Unit width true) h = absurd cc
not_masked (Strided width rs2 masked) h = absurd cc
not_masked (Indexed width vs2 ordered masked) h = absurd cc
not_masked Mask h = refl
not_masked (Whole width count) h = refl

not_none : (n : ℕ) → 0 < n → (n == 0) ≡ false
not_none n h = grind (arith, nat_tests)

-- all elements of a row are moved
loaded_whole : (vlenb : ℕ) (s : Setup) (insn : VMem) (values file : List ℕ) → is_in_a_row insn.place ≡ true → 0 < (data_of vlenb s insn).vl →
    loaded_to vlenb s insn values file
    ≡ written vlenb (data_of vlenb s insn) (load_policy s insn.place) values (replicate (data_of vlenb s insn).vl true) file
unfolding loaded_to active_of
loaded_whole vlenb s insn values file row some =
    let group = data_of vlenb s insn in
    ap (λ (b : Bool). if b then file else written vlenb group (load_policy s insn.place) values (moved_of vlenb s insn file) file)
    (not_none group.vl some)
    ∙ ap (λ (b : Bool). written vlenb group (load_policy s insn.place) values (active_of vlenb b group.vl file) file)
    (not_masked insn.place row)

pub body_loaded : (vlenb : ℕ) (s : Setup) (insn : VMem) (base stride : ℕ) (file new : List ℕ) (memory : Memory) (group : Span) (list : List Access) →
    is_in_a_row insn.place ≡ true → 0 < group.vl → group ≡ data_of vlenb s insn → accesses_of vlenb s insn base stride file ≡ list →
    first_refused list memory ≡ None →
    new ≡ written vlenb group (load_policy s insn.place) (loaded group.vl list memory) (replicate group.vl true) file →
    vector_load vlenb s insn base stride file memory ≡ Ok new
unfolding vector_load
body_loaded vlenb s insn base stride file new memory group list row some meaning is granted done =
    let moved = data_of vlenb s insn in
    let there : 0 < moved.vl = subst (λ (span : Span). 0 < span.vl) meaning some in
    ap (λ (l : List Access). unless_refused LoadFault (first_refused l memory) (loaded_to vlenb s insn (loaded moved.vl l memory) file)) is
    ∙ ap (λ (o : Option Access). unless_refused LoadFault o (loaded_to vlenb s insn (loaded moved.vl list memory) file)) granted
    ∙ ap Ok (loaded_whole vlenb s insn (loaded moved.vl list memory) file row there
    ∙ ap (λ (span : Span). written vlenb span (load_policy s insn.place) (loaded span.vl list memory) (replicate span.vl true) file) (sym meaning)
    ∙ sym done)

pub body_stored : (vlenb : ℕ) (s : Setup) (insn : VMem) (base stride : ℕ) (file : List ℕ) (memory new : Memory) (group : Span) (list : List Access) →
    group ≡ data_of vlenb s insn → accesses_of vlenb s insn base stride file ≡ list → first_refused list memory ≡ None →
    new ≡ stored list (body_of vlenb group file) memory → vector_store vlenb s insn base stride file memory ≡ Ok new
unfolding vector_store
body_stored vlenb s insn base stride file memory new group list meaning is granted done =
    let body = body_of vlenb (data_of vlenb s insn) file in
    ap (λ (l : List Access). unless_refused StoreFault (first_refused l memory) (stored l body memory)) is
    ∙ ap (λ (o : Option Access). unless_refused StoreFault o (stored list body memory)) granted
    ∙ ap Ok (ap (λ (span : Span). stored list (body_of vlenb span file) memory) (sym meaning) ∙ sym done)
