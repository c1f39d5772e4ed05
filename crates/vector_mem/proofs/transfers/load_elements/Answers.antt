use Rattle.std.proofs.Common.{◌≡◌, ◌∙◌, ◌+◌, ◌<◌, ap, arith, drop, get_or, length, map, refl, replicate, subst, sym, ℕ, List, Some, None}
use Rattle.std.specs.List.{All, fold}
use Rattle.std.specs.Option.{option_map}
use Rattle.std.proofs.lemmas.List.{at_drop_more, length-replicate, length-set}
use Rattle.std.proofs.lemmas.List.Elements.{All-get_or}
use Rattle.region_mem.specs.Memory.{load_of}
use Rattle.region_mem.specs.declared.faults.Right.TheVariants.{Read}
use Rattle.vector_mem.specs.declared.plan.Access.{Access}
use Rattle.vector_mem.specs.Accesses.{IsAccessOf, first_refused, loaded, with_loaded}
use Rattle.vector_mem.specs.StepLemmas.{granted_here, loaded_here, refused_here, splat_numbers, zero_bits}
use Rattle.vector_mem.proofs.transfers.load_elements.Goals as goal

pub loop-access-init : goal.loop-access-init
unfolding first_refused loaded
loop-access-init g c =
    let number = g.E.Element.number in
    let list = c.as_slice-access-items.result.now in
    let zero : number c.low_bits.result ≡ 0 = c.low_bits.ensures ∙ zero_bits _ in
    let long : length c.splat.new.values ≡ length c.args.values.now = ap length c.splat.ensures ∙ length-replicate _ _ in
    let zeros : map number c.splat.new.values ≡ replicate (length c.splat.new.values) 0 =
    ap (map number) c.splat.ensures
    ∙ splat_numbers number (length c.args.values.now) c.low_bits.result 0 zero
    ∙ ap (λ (n : ℕ). replicate n 0) (sym long) in
    record {
      permitted = refl;
      so_far = ap (λ (l : List ℕ). fold (with_loaded c.args.memory.now) l list) zeros;
    }

pub returns-in_default-clause-refused : goal.returns-in_default-clause-refused
returns-in_default-clause-refused g c =
    let size = g.E.Element.SIZE in
    let memory = c.args.memory.now in
    let list = c.as_slice-access-items.result.now in
    let i = c.loop-access.access-index in
    let d : Access = record { element = 0; address = 0; size = 0; right = Read } in
    let below : i < length list = omega arith in
    let all : All (IsAccessOf Read size (length c.args.values.now)) list =
    subst (λ (l : List Access). All (IsAccessOf Read size (length c.args.values.now)) l) (sym c.as_slice-access-items.ensures) c.requires in
    let this = All-get_or (IsAccessOf Read size (length c.args.values.now)) list i d below all in
    let none : load_of (get_or list i d).address size memory ≡ None = cc in
    refused_here memory list i size d below this.right_is this.size_is none
    ∙ ap (option_map (λ (a : Access). a.address))
    (c.loop-access.invariant.permitted ∙ ap (λ (l : List Access). first_refused l memory) c.as_slice-access-items.ensures)

pub loop-access-preserved : goal.loop-access-preserved
loop-access-preserved g c =
    let number = g.E.Element.number in
    let size = g.E.Element.SIZE in
    let memory = c.args.memory.now in
    let list = c.as_slice-access-items.result.now in
    let i = c.loop-access.access-index in
    let d : Access = record { element = 0; address = 0; size = 0; right = Read } in
    let a = get_or list i d in
    let below : i < length list = omega arith in
    let all : All (IsAccessOf Read size (length c.args.values.now)) list =
    subst (λ (l : List Access). All (IsAccessOf Read size (length c.args.values.now)) l) (sym c.as_slice-access-items.ensures) c.requires in
    let this = All-get_or (IsAccessOf Read size (length c.args.values.now)) list i d below all in
    let some : load_of a.address size memory ≡ Some c.in-Some.number = cc in
    record {
      permitted = granted_here memory list i size c.in-Some.number d below this.right_is this.size_is some
          ∙ c.loop-access.invariant.permitted;
      so_far = ap (λ (l : List ℕ). fold (with_loaded memory) l (drop (i + 1) list))
          (loaded_here number memory c.loop-access.values c.low_bits-in-loop-access.result size c.in-Some.number a this.size_is some
          c.low_bits-in-loop-access.ensures)
          ∙ sym (at_drop_more (fold (with_loaded memory) (map number c.loop-access.values)) list i d below)
          ∙ c.loop-access.invariant.so_far
          ∙ ap (λ (n : ℕ). loaded n list memory) (sym (length-set c.loop-access.values a.element c.low_bits-in-loop-access.result));
    }
