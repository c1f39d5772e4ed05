-- What is known next is true of the machine to which an instruction leads: it follows from what was known before it.
use Rattle.std.proofs.Common.{◌+◌, ◌∙◌, ℕ, List, Option, arith, refl}
use Rattle.vreg_groups.specs.VectorLength.{IsConfig}
use Rattle.scalar_core.specs.Hart.{IsHart}
use Rattle.vector_core.specs.KeepLaws.{AreRegisters}
use Rattle.machine.specs.Machine.{Machine}
use Rattle.cert_note.specs.declared.values.VectorFact.{VectorFact}
use Rattle.abs_domain.specs.Holds.{Follows}
use Rattle.abs_domain.specs.Memories.{KeepsMemory}
use Rattle.abs_domain.specs.Numbers.{NumbersView}
use Rattle.abs_domain.specs.Zones.{zones_of}
use Rattle.abs_state.specs.State.{AbstractView}
use Rattle.abs_state.specs.declared.state.Way.{Way}
use Rattle.abs_state.specs.Held.{AreTrueOf, Held, IsAt, IsProper, Setting, VtypeHolds, vlenb_in}
use Rattle.abs_state.proofs.Paid.{paid_stays}

-- what is the same throughout a run stays
pub proper_kept : (e : Setting) (s t : Machine) → IsProper e s → IsHart t.hart → IsConfig (vlenb_in e) t.vectors.config
    → AreRegisters (vlenb_in e) t.vectors.registers → KeepsMemory s.memory t.memory → IsProper e t
proper_kept e s t p hart config registers kept =
    let code = kept.code p.safe in
    record {
      hart = hart;
      vectors = record { vlenb_is = p.vectors.vlenb_is; config = config };
      registers = registers;
      bytes = kept.bytes p.bytes;
      zones = kept.zones (zones_of e.image e.certificate.parameters) p.zones;
      code = λ pc word there. code.1 pc ∙ p.code pc word there;
      safe = code.0;
    }

-- the numbers follow, and of the rest each part is true
pub follows_held : (e : Setting) (n : ℕ) (a : AbstractView) (s t : Machine) (held : Held e n a s) (numbers : NumbersView) (vtype : Option ℕ) (groups : List VectorFact)
    (way : Way) → Follows a.numbers numbers held.numbers t.hart t.vectors.config → VtypeHolds vtype t → AreTrueOf (vlenb_in e) t.vectors groups → IsProper e t → IsAt way t.hart
    → Held e n (record a { numbers = numbers; vtype = vtype; groups = groups; words = a.words + 1; way = way }) t
follows_held e n a s t held numbers vtype groups way follows known_vtype known_groups proper at =
    let known = held.known in
    let next = record a { numbers = numbers; vtype = vtype; groups = groups; words = a.words + 1; way = way } in
    record {
      numbers = follows.numbers;
      known = record {
        vlenb = known.vlenb;
        count = omega (arith, known.count, follows.grows);
        passed = λ place l. follows.same (33 + place) (omega (arith, l, known.count)) ∙ known.passed place l;
        known = follows.holds;
        zones = known.zones;
        vtype = known_vtype;
        groups = known_groups;
        paid = paid_stays held.numbers follows.numbers n a.budget a next refl refl follows.grows follows.same known.paid;
        proper = proper;
      };
      way = at;
    }
