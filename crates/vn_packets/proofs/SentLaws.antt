-- Frames that a half sends, under other names of halves.
use Rattle.std.proofs.Common.{◌≡◌, Bool, cond, not, List, [], ◌∷◌, ◌++◌, ℕ, refl, ap, ◌∙◌}
use Rattle.vn_rules.specs.Scenes.{LinkOf, SceneOf, link_of, as_link, renamed_scene}
use Rattle.vn_rules.proofs.Renaming.{cond-renamed}
use Rattle.vn_rules.proofs.SceneLaws.{link_of-renamed, on_link-renamed}
use Rattle.vn_packets.specs.declared.tally.Tally.TheVariants.{Link, Full}
use Rattle.vn_packets.specs.Drops.{lost}
use Rattle.vn_packets.specs.Links.{is_link_full, with_frame, enqueued, sent_by, sent}
use Rattle.vn_packets.proofs.DropLaws.{choice, lost-renamed}

module _ {N M : Type 0} (r : N → M) (at_n : N → N → Bool) (at_m : M → M → Bool) (faithful : (a b : N) → at_m (r a) (r b) ≡ at_n a b) (h : N) (frame : List ℕ) where
  pub enqueued-renamed : (s : SceneOf N) → enqueued at_m (r h) frame (renamed_scene r s) ≡ renamed_scene r (enqueued at_n h frame s)
  unfolding enqueued
  enqueued-renamed s = on_link-renamed r at_n at_m faithful h (with_frame frame) (with_frame frame) (λ l. cond-renamed (as_link r) l (record l { sent = l.sent ++ frame ∷ [] }) (is_link_full l)) s

  sent_by-renamed : (l : LinkOf N) (s : SceneOf N) → sent_by at_m (as_link r l) (r h) frame (renamed_scene r s) ≡ renamed_scene r (sent_by at_n l h frame s)
  sent_by-renamed l s =
      choice (renamed_scene r) (lost Link 1 s) (cond (is_link_full l) (lost Full 1 s) (enqueued at_n h frame s)) {b = not l.up} refl (lost-renamed r Link 1 s)
      (choice (renamed_scene r) (lost Full 1 s) (enqueued at_n h frame s) {b = is_link_full l} refl (lost-renamed r Full 1 s) (enqueued-renamed s))

  pub sent-renamed : (s : SceneOf N) → sent at_m (r h) frame (renamed_scene r s) ≡ renamed_scene r (sent at_n h frame s)
  unfolding sent
  sent-renamed s = ap (λ l. sent_by at_m l (r h) frame (renamed_scene r s)) (link_of-renamed r at_n at_m faithful h s) ∙ sent_by-renamed (link_of at_n h s) s
