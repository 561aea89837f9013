use Rattle.std.proofs.Common.{◌≡◌, ◌<◌, map, ap, sym, ◌∙◌, arith, rules, [], slice_index_or, slice_set}
use Rattle.std.proofs.lemmas.Bool.{or_parts}
use Rattle.std.proofs.lemmas.List.{get_or_default}
use Rattle.vn_types.specs.Paths.{from}
use Rattle.vn_jail.specs.declared.jail.Jail.{Jail}
use Rattle.vn_jail.specs.Tree.{any_full, at, counted, dead_jail, is_full, path_at, recount}
use Rattle.vn_jail.proofs.Upwards.{full-parent, upwards, counted-host, counted-more, untold}
use Rattle.vn_jail.proofs.counting.+count.Goals as goal

pub returns-then-number-eq0 : goal.returns-then-number-eq0
returns-then-number-eq0 t c = counted-host (counted c.args.living) c.args.jails.now c.requires.linked c.args.number c.requires.number (search rules)

pub count-requires : goal.count-requires
count-requires t c =
    let some : 0 < c.args.number = search rules in
    let this = get_or_default c.args.jails.now c.args.number c.index-jails-number.result (dead_jail [] 0) c.requires.number in
    let up = upwards c.args.jails.now c.requires.linked c.args.number c.requires.number some _ this in (
      omega (arith, c.decreases, up.0),
      (
        c.requires.linked,
        (
          up.1,
          λ more. ap (λ (j : Jail). any_full c.args.jails.now (from (path_at c.args.jails.now j.parent))) this
              ∙ (or_parts _ _ (sym (full-parent c.args.jails.now c.requires.linked c.args.number c.requires.number some) ∙ c.requires.room more)).1,
        ),
      ),
    )

pub count_one-requires : goal.count_one-requires
count_one-requires t c = λ more.
    let some : 0 < c.args.number = search rules in
    let this = get_or_default c.args.jails.now c.args.number c.index-jails-number.result (dead_jail [] 0) c.requires.number in
    let own : slice_index_or c.count.new.jails c.args.number c.index-jails-number-2.result ≡ at c.args.jails.now c.args.number =
    ap (λ js. slice_index_or js c.args.number c.index-jails-number-2.result) (c.count.ensures ∙ ap (λ (j : Jail). map (recount (counted c.args.living) (from (path_at c.args.jails.now j.parent))) c.args.jails.now) this)
    ∙ untold (counted c.args.living) c.args.jails.now c.requires.linked c.args.number c.requires.number some c.index-jails-number-2.result in
    ap is_full own ∙ (or_parts _ _ (sym (full-parent c.args.jails.now c.requires.linked c.args.number c.requires.number some) ∙ c.requires.room more)).0

pub returns : goal.returns
returns t c =
    let some : 0 < c.args.number = search rules in
    let this = get_or_default c.args.jails.now c.args.number c.index-jails-number.result (dead_jail [] 0) c.requires.number in
    let told : c.count.new.jails ≡ map (recount (counted c.args.living) (from (path_at c.args.jails.now (at c.args.jails.now c.args.number).parent))) c.args.jails.now =
    c.count.ensures ∙ ap (λ (j : Jail). map (recount (counted c.args.living) (from (path_at c.args.jails.now j.parent))) c.args.jails.now) this in
    let own : slice_index_or c.count.new.jails c.args.number c.index-jails-number-2.result ≡ at c.args.jails.now c.args.number =
    ap (λ js. slice_index_or js c.args.number c.index-jails-number-2.result) told ∙ untold (counted c.args.living) c.args.jails.now c.requires.linked c.args.number c.requires.number some c.index-jails-number-2.result in
    ap (λ js. slice_set js c.args.number c.count_one.new.self) told
    ∙ ap (λ (j : Jail). slice_set (map (recount (counted c.args.living) (from (path_at c.args.jails.now (at c.args.jails.now c.args.number).parent))) c.args.jails.now) c.args.number j) (c.count_one.ensures ∙ ap (λ (j : Jail). record j { living = counted c.args.living j.living }) own)
    ∙ counted-more (counted c.args.living) c.args.jails.now c.requires.linked c.args.number c.requires.number some
