mod Steady
