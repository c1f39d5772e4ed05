-- What registers end as, where a group of them is lent to be written: the borrow ends with the
-- bytes that were written.
use Rattle.std.specs.Prelude.{ℕ, List}
use Rattle.std.specs.Borrow.{Lends, Fml, RattleType, MutBor, Array, u8}
use Rattle.vreg_groups.specs.NewElements.{overlaid_within}
use Rattle.vreg_groups.specs.contracts.lendable.Lendable as lendable
use Rattle.vreg_groups.specs.contracts.registers.VregFile as file

-- r is the part of a lendable array from a place on
abbrev pub lends_part : (T N : RattleType) → MutBor (lendable.the_row T N).Denot → ℕ
    → MutBor (List T.Denot) → Fml
lends_part T N lender at r =
    Lends (lendable.the_row T N) (Array T 0) lender r
    (λ w. record { items = overlaid_within at lender.now.items w })

-- r is the part of the registers from a place on
abbrev pub lends_group : (vlenb : RattleType) → MutBor (List ℕ) → ℕ → MutBor (List ℕ) → Fml
lends_group vlenb lender at r =
    Lends (file.the_row vlenb) (Array u8 0) lender r (overlaid_within at lender.now)
