use Rattle.std.proofs.Common.{◌≡◌, drop}
use Rattle.vn_shell.specs.Commands.Jail.{settings_of}
use Rattle.vn_shell.specs.Words.{texts}
use Rattle.vn_shell.proofs.Settings.{command_after}
use Rattle.vn_shell.proofs.command.jail.read_settings.Given as goal

abbrev pub invariant-loop-word : goal.invariant-loop-word
invariant-loop-word l = command_after l.settings (texts (drop l.word-index l.words)) ≡ settings_of (texts l.words)
