-- Commands that change a stack's tables alone, and what is done next to a command.
use Rattle.vn_rules.specs.declared.parts.PartsOf.{PartsOf}
use Rattle.vn_rules.specs.Rules.{Answer, Rule}
use Rattle.vn_rules.specs.Scenes.{SceneOf}

module _ {N : Type 0} where
  -- an answer over the tables of a scene
  abbrev pub in_scene : SceneOf N → Answer (PartsOf N) → Answer (SceneOf N)
  in_scene s a = record { left = record s { parts = a.left }; outcome = a.outcome }

  -- a rule over the tables of a scene
  abbrev pub on_tables : SceneOf N → Rule (PartsOf N) → Rule (SceneOf N)
  on_tables s rule =
      record { refusals = rule.refusals; otherwise = in_scene s rule.otherwise }

module _ {S : Type 0} where
  -- a rule, and what is done next where nothing refuses
  abbrev pub and_next : (S → S) → Rule S → Rule S
  and_next f rule = record {
    refusals = rule.refusals;
    otherwise = record rule.otherwise { left = f rule.otherwise.left };
  }
