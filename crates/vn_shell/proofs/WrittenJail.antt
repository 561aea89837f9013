-- The commands of `jail` read as they are written (jail(8)).
use Rattle.std.proofs.Common.{◌≡◌, ℕ, ◌+◌, ◌^◌, ◌<◌, ◌==◌, Bool, true, false, cond, ◌&&◌, List, [], ◌∷◌, ◌++◌, Option, Some, None, refl, sym, ap, append_assoc, append-nil, ◌∙◌, arith}
use Rattle.std.specs.Prelude.{codes, decimal}
use Rattle.std.specs.Option.{option_map}
use Rattle.std.proofs.lemmas.Bool.{and_parts, and_from, ltb-true, eqb-true}
use Rattle.vn_types.specs.Paths.{Path, path_text}
use Rattle.vn_types.specs.Steps.{◌>>=◌}
use Rattle.vn_cells.specs.declared.command.Command.{Command}
use Rattle.vn_cells.specs.declared.command.Command.TheVariants as command
use Rattle.vn_cells.specs.texts.Programs.{command_text}
use Rattle.vn_shell.specs.Words.{is_filled}
use Rattle.vn_shell.specs.Commands.{command_of}
use Rattle.vn_shell.specs.Commands.Jail.{is_limit, name_of as jail_name_of, limit_of as jail_limit_of, no_settings, with_value, with_word, command_in, settings_of, jail_of}
use Rattle.vn_shell.proofs.Bounds.{is_named}
use Rattle.vn_shell.proofs.ByWords.{ReadsBack, by_words, both, alone, is_path_named}
use Rattle.vn_shell.proofs.ReadBack.{number_back, named_back, number_word, path_word}
use Rattle.vn_shell.proofs.Settings.{command_after, whole_settings}
use Rattle.vn_shell.proofs.SpacedWords.{is_between, is_graphic, spaced}

name_setting_word : (path : Path) → is_named path ≡ true → is_between (codes "name=" ++ path_text path) ≡ true
name_setting_word path h = and_from _ _ (and_parts (is_graphic (path_text path)) (is_filled (path_text path)) (path_word path (is_path_named path h))).0 refl

limit_word : (limit : ℕ) → is_limit limit ≡ true → is_between (codes "children.max=" ++ decimal limit) ≡ true
limit_word limit small =
    and_from _ _ (and_parts (is_graphic (decimal limit)) (is_filled (decimal limit)) (number_word limit (omega (arith, ltb-true limit 10000 small)))).0 refl

made_plain : (path : Path) → is_named path ≡ true → settings_of ((codes "name=" ++ path_text path) ∷ codes "vnet" ∷ codes "persist" ∷ []) ≡ Some (command.JailCreate path 0)
unfolding with_word jail_name_of jail_limit_of
made_plain path h =
    sym (whole_settings ((codes "name=" ++ path_text path) ∷ codes "vnet" ∷ codes "persist" ∷ []))
    ∙ ap (λ o. with_value no_settings o None >>= λ more. command_after more (codes "vnet" ∷ codes "persist" ∷ [])) (named_back path h)

made_limited : (path : Path) (limit : ℕ) → is_named path ≡ true → is_limit limit ≡ true
    → settings_of ((codes "name=" ++ path_text path) ∷ codes "vnet" ∷ codes "persist" ∷ (codes "children.max=" ++ decimal limit) ∷ []) ≡ Some (command.JailCreate path limit)
unfolding with_word jail_name_of jail_limit_of
made_limited path limit h small =
    sym (whole_settings ((codes "name=" ++ path_text path) ∷ codes "vnet" ∷ codes "persist" ∷ (codes "children.max=" ++ decimal limit) ∷ []))
    ∙ ap (λ o. with_value no_settings o None >>= λ more. command_after more (codes "vnet" ∷ codes "persist" ∷ (codes "children.max=" ++ decimal limit) ∷ [])) (named_back path h)
    ∙ ap (λ o. with_value (record { vnet = true; persist = true; name = Some path; limit = None }) None o >>= command_in) (number_back is_limit limit (omega (arith, ltb-true limit 10000 small)) small)

-- its text, with a limit and without
limited_text : (path : Path) (limit : ℕ) → (limit == 0) ≡ false
    → command_text (command.JailCreate path limit) ≡ spaced (codes "jail" ∷ codes "-c" ∷ (codes "name=" ++ path_text path) ∷ codes "vnet" ∷ codes "persist" ∷ (codes "children.max=" ++ decimal limit) ∷ [])
unfolding command_text
limited_text path limit e =
    ap (λ b. codes "jail -c name=" ++ path_text path ++ codes " vnet persist" ++ cond b [] (codes " children.max=" ++ decimal limit)) e ∙ simp append_assoc

plain_text : (path : Path) (limit : ℕ) → (limit == 0) ≡ true
    → command_text (command.JailCreate path limit) ≡ spaced (codes "jail" ∷ codes "-c" ∷ (codes "name=" ++ path_text path) ∷ codes "vnet" ∷ codes "persist" ∷ [])
unfolding command_text
plain_text path limit e =
    ap (λ b. codes "jail -c name=" ++ path_text path ++ codes " vnet persist" ++ cond b [] (codes " children.max=" ++ decimal limit)) e
    ∙ append-nil (codes "jail -c name=" ++ path_text path ++ codes " vnet persist")

pub creation_back : (path : Path) (limit : ℕ) → is_named path ≡ true → is_limit limit ≡ true → ReadsBack (command.JailCreate path limit)
unfolding command_of jail_of
creation_back path limit h small = by (limit == 0) refl
  where
    by : (b : Bool) → (limit == 0) ≡ b → ReadsBack (command.JailCreate path limit)
    by true e =
        by_words (command.JailCreate path limit) (codes "jail") (codes "-c" ∷ (codes "name=" ++ path_text path) ∷ codes "vnet" ∷ codes "persist" ∷ [])
        (plain_text path limit e) (alone _ (name_setting_word path h))
        (made_plain path h ∙ ap (λ n. Some (command.JailCreate path n)) (sym (eqb-true limit 0 e)))
    by false e =
        by_words (command.JailCreate path limit) (codes "jail") (codes "-c" ∷ (codes "name=" ++ path_text path) ∷ codes "vnet" ∷ codes "persist" ∷ (codes "children.max=" ++ decimal limit) ∷ [])
        (limited_text path limit e) (both _ _ (name_setting_word path h) (limit_word limit small))
        (made_limited path limit h small)

pub removal_back : (path : Path) → is_named path ≡ true → ReadsBack (command.JailRemove path)
unfolding command_of jail_of command_text
removal_back path h =
    by_words (command.JailRemove path) (codes "jail") (codes "-r" ∷ path_text path ∷ []) refl (alone _ (path_word path (is_path_named path h)))
    (ap (option_map command.JailRemove) (named_back path h))
