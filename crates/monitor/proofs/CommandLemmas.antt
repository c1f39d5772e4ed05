-- Lines that are commands, and lines that are none.
use Rattle.std.proofs.Common.{◌≡◌, Option, Some, None, List, ℕ, Ok, Err, IfErr, IfOk, IfSome, refl}
use Rattle.sandbox_run.specs.Session.{SessionView}
use Rattle.monitor.specs.Commands.{fault_in, order_of, unless}
use Rattle.monitor.specs.Parse.{command_of}
use Rattle.monitor.specs.declared.commands.Command.{Command}
use Rattle.monitor.specs.declared.commands.MonError.{MonError}

refused_by : (P : MonError → Type 0) (command : Command) (fault : Option MonError) → IfSome fault P → IfErr (unless command fault) P
refused_by P command None says = tt
refused_by P command (Some e) says = says

carried_by : (P : Command → Type 0) (command : Command) (fault : Option MonError) → (fault ≡ None → P command) → IfOk (unless command fault) P
carried_by P command None says = says refl
carried_by P command (Some e) says = tt

module _ (line bs : List ℕ) (s : SessionView) where
  pub refused_line : (P : MonError → Type 0) (command : Command) → command_of line ≡ Ok command → IfSome (fault_in command bs s) P → IfErr (order_of line bs s) P
  unfolding order_of
  refused_line P command is says = rw is (refused_by P command (fault_in command bs s) says)

  pub carried_line : (P : Command → Type 0) (command : Command) → command_of line ≡ Ok command → (fault_in command bs s ≡ None → P command) → IfOk (order_of line bs s) P
  unfolding order_of
  carried_line P command is says = rw is (carried_by P command (fault_in command bs s) says)

  pub none_line : (P : MonError → Type 0) (e : MonError) → command_of line ≡ Err e → P e → IfErr (order_of line bs s) P
  unfolding order_of
  none_line P e is says = rw is says

  pub none_done : (P : Command → Type 0) (e : MonError) → command_of line ≡ Err e → IfOk (order_of line bs s) P
  unfolding order_of
  none_done P e is = rw is tt
