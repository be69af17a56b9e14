-- Each question is asked of its files, with the limits and the form that were asked for.
use Rattle.view_run.proofs.perform.show_question.Goals as goal

pub returns-in-Check-clause-ends : goal.returns-in-Check-clause-ends
returns-in-Check-clause-ends g c = rw c.in-Check.is (c.requires.second, c.ask_one.ensures.ends)

pub returns-in-Houdini-clause-ends : goal.returns-in-Houdini-clause-ends
returns-in-Houdini-clause-ends g c = rw c.in-Houdini.is (c.requires.second, c.ask_one-in-Houdini.ensures.ends)

pub returns-in-Bmc-clause-ends : goal.returns-in-Bmc-clause-ends
returns-in-Bmc-clause-ends g c = rw c.in-Bmc.is (c.requires.second, c.ask_one-in-Bmc.ensures.ends)

pub returns-in-Why-clause-ends : goal.returns-in-Why-clause-ends
returns-in-Why-clause-ends g c = rw c.in-Why.is (c.requires.second, c.ask_one-in-Why.ensures.ends)

pub returns-in-Replay-clause-ends : goal.returns-in-Replay-clause-ends
returns-in-Replay-clause-ends g c = rw c.in-Replay.is c.ask_two.ensures.ends
