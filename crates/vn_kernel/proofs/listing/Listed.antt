-- The rows over the tables are the listing of the world.
use Rattle.std.proofs.Common.{◌≡◌, ℕ, true, false, List, Option, Some, None, sym, ap, ◌∙◌}
use Rattle.std.specs.Prelude.{if◌then◌else◌}
use Rattle.std.specs.Option.{option_map}
use Rattle.vn_types.specs.declared.half.Half.{Half}
use Rattle.vn_types.specs.Interfaces.{half_id_eq}
use Rattle.vn_types.specs.Paths.{Path}
use Rattle.vn_rules.specs.Scenes.{SceneOf, renamed_scene}
use Rattle.vn_jail.specs.Tree.{is_alive, number_of}
use Rattle.vn_cells.specs.declared.listing.IfRow.{IfRow}
use Rattle.vn_cells.specs.declared.world.Live.{Live}
use Rattle.vn_cells.specs.machine.Listings.{if_rows}
use Rattle.vn_cells.specs.machine.Local.{here_at, listing_at, scene_in}
use Rattle.vn_cells.specs.world.Names.{half_eq, half_name}
use Rattle.vn_ipcore.specs.Scenes.{scene_of}
use Rattle.vn_kernel.specs.Fields.{Fields}
use Rattle.vn_kernel.specs.Naming.{name_of}
use Rattle.vn_kernel.specs.Rows.{label_of}
use Rattle.vn_kernel.specs.Stands.{Stands}
use Rattle.vn_kernel.specs.Worlds.{live_of, world_of}
use Rattle.vn_kernel.proofs.Views.{live-here}
use Rattle.vn_kernel.proofs.listing.Renamed.{rows-renamed}
use Rattle.vn_kernel.proofs.moving.Faithful.{name-kept}
use Rattle.vn_kernel.proofs.scenes.Seen.{scene_here}

module _ {f : Fields} (s : Stands f) (p : Path) where
  -- nothing lives there
  pub scene-dead : is_alive p f.jails ≡ false → (here_at (world_of f) p).scene ≡ None
  scene-dead dead =
      ap (option_map (λ (live : Live). scene_in (world_of f) live.parts)) (live-here f s p ∙ ap (λ b. if b then Some (live_of f (number_of p f.jails)) else None) dead)

  pub listing-dead : is_alive p f.jails ≡ false → None ≡ listing_at (world_of f) p
  listing-dead dead = sym (ap (option_map (if_rows half_eq half_name)) (scene-dead dead))

  pub listing-alive : (number : ℕ) (rows : List IfRow) → is_alive p f.jails ≡ true → number ≡ number_of p f.jails
      → rows ≡ if_rows half_id_eq (label_of f) (scene_of f.tables number) → Some rows ≡ listing_at (world_of f) p
  listing-alive number rows alive at is =
      ap Some (is ∙ ap (λ n. if_rows half_id_eq (label_of f) (scene_of f.tables n)) at ∙ sym (rows-renamed (name_of f) half_id_eq half_eq (name-kept s) half_name (scene_of f.tables (number_of p f.jails))))
      ∙ sym (ap (option_map (if_rows half_eq half_name)) (scene_here s p alive))
