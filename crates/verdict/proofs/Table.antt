-- The table holds: by computation, but for the counts of models and the cases of products, which have a file of their own.
use mathlib.Core.Path.{refl}
use mathlib.Core.List.{◌++◌}
use Rattle.design.specs.DesignA.{bytes_a, piece_a, design_a, count, check_a}
use Rattle.design.specs.Constrained.{bytes_moved, design_moved, check_moved, bytes_no_idle, design_no_idle, check_no_idle, design_raised, check_raised}
use Rattle.design.specs.Multiplied.{check_multiplied}
use Rattle.design.specs.Passing.{bytes_passing, design_passing, wraps_below, check_passing}
use Rattle.design.specs.Check.{checking}
use Rattle.design.specs.Answer.{on_design}
use Rattle.step.specs.Pattern.{signed, wrap, outside}
use Rattle.step.specs.Piece.{piece_right}
use Rattle.step.specs.Gate.{gate}
use Rattle.step.specs.OneStep.{stepping}
use Rattle.step.specs.Strict.{strict_at, strict_from, strict, idles_from}
use Rattle.step.specs.StatusEventGuard.{event_read_of, guard_read_of, event_read_by, guard_read_by, count_from}
use Rattle.step.specs.Operations.{first_break}
use Rattle.clauses.specs.Formula.{encoding}
use Rattle.clauses.proofs.DesignA.{models_3, models_4, models_lent}
use Rattle.clauses.proofs.Constrained.{models_moved, models_no_idle}
use Rattle.clauses.proofs.Multiplied.{frame_multiplied, frame_multiplied_1, broken_multiplied_1, bound_multiplied_0, bound_multiplied_2, broken_multiplied, never_multiplied, models_multiplied_1, models_multiplied_2}
use Rattle.clauses.proofs.Passing.{frame_passing, frame_passing_2, models_passing}
use Rattle.clauses.specs.Admission.{admit}
use Rattle.clauses.specs.Decode.{flag_values, chosen_from, choices_of, choices_to_write, decode}
use Rattle.search.specs.Search.{turn, solved}
use Rattle.search.specs.Solve.{solve}
use Rattle.search.specs.Refutation.{follows, refute}
use Rattle.verdict.proofs.Strict.{strict_breakers, strict_count_lem}
use Rattle.verdict.proofs.Raised.{raised_idling}
use Rattle.verdict.specs.Verdict.{searched, judged_from, judge, memory_left, room_for, verdict}
use Rattle.verdict.specs.Owners.{alone, each_owner, owners}
use Rattle.verdict.specs.Cases.{AllHold, two_externals, design_two, design_loop, design_same}
use Rattle.verdict.specs.Table.{bare_cases, piece_cases, passing_cases, owner_cases, refuted_cases, strict_run_cases, strict_count_cases, table}

bare_hold : AllHold bare_cases
unfolding bytes_a piece_a bytes_moved bytes_no_idle design_a design_moved design_no_idle count checking stepping piece_right gate on_design event_read_of guard_read_of event_read_by guard_read_by count_from first_break encoding signed wrap turn solved solve
bare_hold = (refl, (refl, (refl, (refl, (refl, (refl, (refl, (refl, tt))))))))

pieces_hold : AllHold (piece_cases ++ bare_cases)
unfolding bytes_a piece_a bytes_moved bytes_no_idle design_a design_moved design_no_idle count checking stepping piece_right gate on_design event_read_of guard_read_of event_read_by guard_read_by count_from first_break encoding signed wrap turn solved solve
pieces_hold = ((refl, refl, refl, refl, refl), ((refl, refl), ((refl, refl), ((refl, refl), (refl, (refl, (models_lent, (refl, ((refl, refl), (refl, (refl, (refl, (refl, (refl, (refl, (refl, (refl, (refl, (refl, (refl, (refl, (refl, (refl, (refl, (refl, (refl, bare_hold))))))))))))))))))))))))))

passing_hold : AllHold (passing_cases ++ (piece_cases ++ bare_cases))
unfolding bytes_passing design_passing wraps_below design_a stepping first_break signed wrap outside
passing_hold = (
  check_passing,
  (
    frame_passing,
    (
      refl,
      (
        (refl, refl),
        (
          (refl, refl),
          (
            refl,
            (
              models_passing,
              (
                frame_passing_2,
                (
                  (refl, refl),
                  (
                    refl,
                    (
                      frame_multiplied_1,
                      (
                        broken_multiplied_1,
                        (
                          refl,
                          (
                            refl,
                            (
                              refl,
                              (refl, (refl, (refl, (refl, (refl, (refl, (refl, (refl, ((refl, refl), ((refl, refl), ((refl, refl), ((refl, refl), pieces_hold)))))))))))),
                            ),
                          ),
                        ),
                      ),
                    ),
                  ),
                ),
              ),
            ),
          ),
        ),
      ),
    ),
  ),
)

owners_hold : AllHold (owner_cases ++ (passing_cases ++ (piece_cases ++ bare_cases)))
unfolding two_externals count checking on_design owners each_owner alone verdict admit gate piece_right room_for judge judged_from searched memory_left encoding turn solved signed wrap flag_values chosen_from choices_of choices_to_write decode
owners_hold = (refl, (refl, (refl, (refl, (refl, (refl, (refl, (refl, (refl, passing_hold)))))))))

refuted_hold : AllHold (refuted_cases ++ (owner_cases ++ (passing_cases ++ (piece_cases ++ bare_cases))))
unfolding two_externals design_two checking encoding signed wrap follows refute
refuted_hold = (refl, (refl, (refl, (refl, (refl, (refl, (refl, (refl, (refl, (refl, (refl, (refl, (refl, (refl, (refl, (refl, (refl, (refl, (refl, (refl, (refl, (refl, (refl, (refl, (refl, (refl, (refl, (refl, owners_hold))))))))))))))))))))))))))))

counts_hold : AllHold (strict_count_cases ++ (refuted_cases ++ (owner_cases ++ (passing_cases ++ (piece_cases ++ bare_cases)))))
unfolding bytes_a piece_a design_a design_raised design_two count checking piece_right encoding stepping first_break strict_at strict_from strict strict_breakers
counts_hold =
    (strict_count_lem _ _ _ _ refl, (strict_count_lem _ _ _ _ refl, (strict_count_lem _ _ _ _ refl, (strict_count_lem _ _ _ _ refl, (strict_count_lem _ _ _ _ refl, (strict_count_lem _ _ _ _ refl, (strict_count_lem _ _ _ _ refl, (check_raised, ((refl, refl), (refl, (raised_idling, refuted_hold)))))))))))

strict_hold : AllHold (strict_run_cases ++ (strict_count_cases ++ (refuted_cases ++ (owner_cases ++ (passing_cases ++ (piece_cases ++ bare_cases))))))
unfolding design_a design_two design_loop design_same count encoding stepping strict_at strict_from strict idles_from
strict_hold = (refl, (refl, (refl, (refl, (refl, (refl, (refl, (refl, (refl, (refl, (refl, (refl, (refl, (refl, (refl, (refl, (refl, counts_hold)))))))))))))))))

pub table_holds : AllHold table
unfolding bytes_a piece_a bytes_moved bytes_no_idle design_a design_moved design_no_idle count checking stepping piece_right gate on_design event_read_of guard_read_of event_read_by guard_read_by count_from first_break encoding signed wrap turn solved solve
table_holds = (
  check_a,
  (
    (refl, refl, refl, refl, refl),
    (
      (refl, refl),
      (
        (refl, refl),
        (
          (refl, refl),
          (
            refl,
            (
              models_3,
              (
                models_4,
                (
                  check_moved,
                  (
                    (refl, refl, refl, refl, refl),
                    (
                      (refl, refl),
                      (
                        (refl, refl),
                        (
                          refl,
                          (
                            refl,
                            (
                              refl,
                              (
                                (refl, refl),
                                (
                                  refl,
                                  (
                                    models_moved,
                                    (
                                      check_no_idle,
                                      (
                                        (refl, refl),
                                        (
                                          refl,
                                          (
                                            refl,
                                            (
                                              models_no_idle,
                                              (
                                                check_multiplied,
                                                (
                                                  frame_multiplied,
                                                  (
                                                    bound_multiplied_0,
                                                    (
                                                      bound_multiplied_2,
                                                      (
                                                        broken_multiplied,
                                                        (
                                                          never_multiplied,
                                                          (
                                                            models_multiplied_1,
                                                            (
                                                              models_multiplied_2,
                                                              (refl, (refl, (refl, (refl, (refl, ((refl, refl), ((refl, refl), ((refl, refl), ((refl, refl), strict_hold))))))))),
                                                            ),
                                                          ),
                                                        ),
                                                      ),
                                                    ),
                                                  ),
                                                ),
                                              ),
                                            ),
                                          ),
                                        ),
                                      ),
                                    ),
                                  ),
                                ),
                              ),
                            ),
                          ),
                        ),
                      ),
                    ),
                  ),
                ),
              ),
            ),
          ),
        ),
      ),
    ),
  ),
)
