-- What was stated of the places so far.
use Rattle.cert_maker.specs.Make.{stated_at}
use Rattle.cert_maker.proofs.FactLists.{AreSoFar}
use Rattle.cert_maker.proofs.building.facts.Given as goal

abbrev pub invariant-loop-place : goal.invariant-loop-place
invariant-loop-place l =
    AreSoFar (stated_at l.spot l.parameters l.of) l.place l.facts.items
