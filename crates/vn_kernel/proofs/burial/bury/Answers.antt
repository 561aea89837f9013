use Rattle.std.proofs.Common.{◌≡◌, ◌≢◌, true, List, drop, reverse, sym, ◌∙◌, subst}
use Rattle.vn_types.specs.Paths.{Path, parent}
use Rattle.vn_jail.specs.declared.jail.Jail.{Jail}
use Rattle.vn_jail.specs.Tree.{at, is_alive, path_at}
use Rattle.vn_vmove.specs.declared.tables.Tables.{Tables}
use Rattle.vn_vmove.specs.Parts.{lives}
use Rattle.vn_vmove.specs.Sound.{IsSound}
use Rattle.vn_kernel.specs.Constructors.{constructors}
use Rattle.vn_kernel.specs.Destruction.{with_destructors}
use Rattle.vn_kernel.specs.Fields.{fields}
use Rattle.vn_kernel.specs.Removal.{IsAlone}
use Rattle.vn_kernel.proofs.Destroyed.{same-jails, same-tables}
use Rattle.vn_kernel.proofs.removing.Bury.{buries}
use Rattle.vn_kernel.proofs.burial.bury.Goals as goal

pub destruct-requires-clause-sound : goal.destruct-requires-clause-sound
destruct-requires-clause-sound c = subst IsSound (sym (same-tables c.in_ok-path.path c.args.state.now.clock (drop 1 (reverse constructors)) (fields c.args.state.now) (fields c.note_destruction.new.state) c.in_ok-note_destruction.ensures)) c.requires.stack.stands.sound

pub destruct-requires-clause-alive : goal.destruct-requires-clause-alive
destruct-requires-clause-alive c =
    subst (λ (t : Tables). lives t c.args.sid.0 ≡ true) (sym (same-tables c.in_ok-path.path c.args.state.now.clock (drop 1 (reverse constructors)) (fields c.args.state.now) (fields c.note_destruction.new.state) c.in_ok-note_destruction.ensures)) (c.requires.stack.stands.living c.args.sid.0 ∙ c.requires.stack.alive)

pub destruct-requires-clause-alone : goal.destruct-requires-clause-alone
destruct-requires-clause-alone c = subst (IsAlone c.args.sid.0) (sym (same-tables c.in_ok-path.path c.args.state.now.clock (drop 1 (reverse constructors)) (fields c.args.state.now) (fields c.note_destruction.new.state) c.in_ok-note_destruction.ensures)) c.requires.alone

pub remove-requires-clause-alive : goal.remove-requires-clause-alive
remove-requires-clause-alive c =
    subst (λ (jails : List Jail). (at jails c.args.sid.0).alive ≡ true)
    (sym (same-jails c.in_ok-path.path c.args.state.now.clock (drop 1 (reverse constructors)) (fields c.args.state.now) (fields c.note_destruction.new.state) c.in_ok-note_destruction.ensures))
    c.requires.stack.alive

pub remove-requires-clause-childless : goal.remove-requires-clause-childless
remove-requires-clause-childless c =
    subst (λ (jails : List Jail). (p : Path) → is_alive p jails ≡ true → parent p ≢ path_at jails c.args.sid.0)
    (sym (same-jails c.in_ok-path.path c.args.state.now.clock (drop 1 (reverse constructors)) (fields c.args.state.now) (fields c.note_destruction.new.state) c.in_ok-note_destruction.ensures))
    c.requires.childless

pub returns : goal.returns
returns c =
    buries (fields c.args.state.now) c.requires.stack.stands c.args.sid.0 c.requires.stack.alive c.requires.alone
    (fields c.note_destruction.new.state) (c.in_ok-note_destruction.ensures ∙ (λ i. with_destructors ((c.in_ok-path.ensures ∙ c.path.ensures) i) c.args.state.now.clock (drop 1 (reverse constructors)) (fields c.args.state.now)))
    c.remove.new.self c.remove.ensures c.law_of_tree.ensures.paths c.law_of_tree.ensures.tree c.destruct.new.tables c.destruct.ensures
