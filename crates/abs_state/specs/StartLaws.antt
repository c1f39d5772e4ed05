-- That what is known where a block or a run begins is true of the machine there.
use Rattle.std.specs.Prelude.{ℕ, ◌≡◌, ◌<◌, ◌≤◌, ◌^◌, List, length, Some}
use Rattle.std.specs.List.{AllByRecursion}
use Rattle.abs_state.specs.Words.{IsImage, Machine, Block, IsCertificate}
use Rattle.region_mem.specs.Laws.{BringsBytes}
use Rattle.region_mem.specs.Parameter.{Argument, AreArguments}
use Rattle.vreg_groups.specs.declared.policies.Agnostic.{Agnostic}
use Rattle.machine.specs.Start.{passed_at, start}
use Rattle.abs_domain.specs.BlockLaws.{ArePassed}
use Rattle.abs_state.specs.Blocks.{at_block_of, at_entry_of}
use Rattle.abs_state.specs.Held.{Setting, Held, Fits, budget_of, vlenb_in}
use Rattle.abs_state.specs.EdgeLaws.{block_of}

-- An image and a certificate are what they are by their definitions, and the numbers that were
-- passed are what the parameters ask for.
pub record IsSetting (e : Setting) : Type 0 where
  pub image : IsImage e.image
  pub certificate : IsCertificate e.certificate
  pub passed : ArePassed e.certificate.parameters e.passed

-- Where a machine stands at a block's start, and all that the block states is true, what is known
-- there is true of it. The budget comes to what it is of the machine.
abbrev pub BlocksAreHeld : Type 0
BlocksAreHeld =
    (e : Setting) (block : Block) (m : Machine) → IsSetting e → block_of e m ≡ Some block
    → Fits e block m
    → Held e (budget_of block.budget m.hart) (at_block_of e.image e.certificate block) m

-- The numbers are those that arguments pass in a0 to a7, and past these any of 32 bits.
pub record ArePassedBy (e : Setting) (args : List Argument) : Type 0 where
  pub each : (place : ℕ) → place < 8
      → e.passed place ≡ passed_at e.certificate.parameters args place
  pub past : (place : ℕ) → 8 ≤ place → e.passed place < 2 ^ 32

-- What is known where a run begins is true of the machine that it starts with, on arguments that
-- match; no budget is known there, so that it may come to any number.
abbrev pub EntriesAreHeld : Type 0
EntriesAreHeld =
    (e : Setting) (n : ℕ) (agnostic : Agnostic) (args : List Argument) → IsImage e.image
    → IsCertificate e.certificate → length args ≡ 8 → AreArguments e.certificate.parameters args
    → AllByRecursion BringsBytes args → ArePassedBy e args
    → IsSetting e
    × Held e n (at_entry_of e.image e.certificate)
    (start (vlenb_in e) agnostic e.image e.certificate.parameters args)
