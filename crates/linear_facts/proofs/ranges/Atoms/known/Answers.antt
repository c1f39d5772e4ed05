-- The atom that was read, by its number.
use Rattle.std.proofs.Common.{arith, ◌≡◌, ap, ℕ, List, get_or}
use Rattle.linear_facts.specs.Words.{Atom}
use Rattle.linear_facts.specs.Ranges.{AtomTable, atom_at, unknown_atom}
use Rattle.linear_facts.proofs.ranges.Atoms.known.Goals as goal

atom_read : (table : AtomTable) (atoms : List Atom) (known : Atom) (i a : ℕ) → atoms ≡ table.atoms → i ≡ a
    → known ≡ get_or atoms i unknown_atom → known ≡ atom_at table a
unfolding atom_at
atom_read table atoms known i a e e' h = cc

pub returns-in-Some : goal.returns-in-Some
returns-in-Some c =
    atom_read _ _ _ _ _ (ap (λ (t : AtomTable). t.atoms) c.self.view_is) c.from.ensures (c.in-Some.ensures.lookup.4 (omega arith) unknown_atom)

pub returns-in-None : goal.returns-in-None
returns-in-None c =
    atom_read _ _ _ _ _ (ap (λ (t : AtomTable). t.atoms) c.self.view_is) c.from.ensures (c.in-None.ensures.lookup.4 (omega arith) unknown_atom)
