use Rattle.std.proofs.Common.{◌≡◌, ◌+◌, ◌≤◌, length}
use Rattle.vn_vmove.specs.Parts.{parts}
use Rattle.vn_kernel.specs.Fields.{fields}
use Rattle.vn_kernel.proofs.removing.Homing.{Homing}
use Rattle.vn_kernel.proofs.homecoming.send_lent_home.Given as goal

-- an interface was passed in each step, or a half left
abbrev pub invariant-loop-step : goal.invariant-loop-step
invariant-loop-step l = record {
  homing : Homing l.sid.0 l.place (fields l.initial.state) (fields l.state);
  steps : length (parts l.state.tables l.sid.0).interfaces + l._step ≡ l.place + l._step-end;
  ahead : l.place ≤ l._step;
}
