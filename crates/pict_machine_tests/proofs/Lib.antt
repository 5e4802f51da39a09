mod Gently
